-- What a plan knew of the pod and its claims, against a state.
use Rattle.std.specs.Prelude.{ℕ, ◌==◌, List, Bool, false, not, ◌&&◌, Option, None, Some, is_none, option_map, find, if◌then◌else◌}
use Rattle.object_fields.specs.declared.key.Key.{Key}
use Rattle.pool_view.specs.Names.{at_key, text_eq}
use Rattle.cluster.specs.declared.plan.KnownClaim.{KnownClaim}
use Rattle.cluster.specs.declared.plan.Plan.{Plan}
use Rattle.cluster.specs.declared.state.ClaimState.{ClaimState}
use Rattle.cluster.specs.declared.state.Granted.{Granted}
use Rattle.cluster.specs.declared.state.PodState.{PodState}
use Rattle.cluster.specs.declared.state.State.{State}
use Rattle.cluster.specs.State.{may_use}
use Rattle.request_rules.specs.Lists.{or_else}
use Rattle.cluster.specs.declared.failure.Failure.{Failure}
use Rattle.cluster.specs.declared.failure.Failure.TheVariants.{ClaimChanged, ClaimGone, Users}

-- ---- claims that don't exist

abbrev pub is_gone : State → KnownClaim → Bool
is_gone s k = is_none (at_key s.claims k.claim)

-- the first of the claims that doesn't exist
abbrev pub claim_gone : State → List KnownClaim → Option Failure
claim_gone s ks = option_map (λ k. ClaimGone k.claim) (find (is_gone s) ks)

-- ---- claims that are others now

abbrev pub is_node : List ℕ → Option (List ℕ) → Bool
is_node node None = false
is_node node (Some other) = text_eq node other

-- the claim has no grant if none was known, and otherwise has one on the node that was known
abbrev pub same_node : Option Granted → Option (List ℕ) → Bool
same_node None node = is_none node
same_node (Some g) node = is_node g.node node

abbrev pub is_known : KnownClaim → ClaimState → Bool
is_known k c = (c.claim.uid == k.uid) && same_node c.grant k.node

-- a claim that doesn't exist is gone, and not changed
abbrev pub is_other : KnownClaim → Option ClaimState → Bool
is_other k None = false
is_other k (Some c) = not (is_known k c)

abbrev pub is_changed : State → KnownClaim → Bool
is_changed s k = is_other k (at_key s.claims k.claim)

abbrev pub claim_changed : State → List KnownClaim → Option Failure
claim_changed s ks = option_map (λ k. ClaimChanged k.claim) (find (is_changed s) ks)

-- the pod has another uid
abbrev pub pod_changed : Key → PodState → Plan → Option Failure
pod_changed pod p plan = if p.pod.uid == plan.known.pod then None else Some (ClaimChanged pod)

-- the pod has another uid, or else the first of the claims that is another
abbrev pub changed : State → Key → PodState → Plan → Option Failure
changed s pod p plan = or_else (pod_changed pod p plan) (claim_changed s plan.known.claims)

-- ---- users

abbrev pub is_full : State → Key → KnownClaim → Bool
is_full s pod k = not (may_use pod (at_key s.claims k.claim))

-- the first of the claims that has as many users as it may have, the pod not among them
abbrev pub claim_full : State → Key → List KnownClaim → Option Failure
claim_full s pod ks = option_map (λ k. Users k.claim) (find (is_full s pod) ks)
