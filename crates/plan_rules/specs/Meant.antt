-- Plans and states that the check's laws are about.
use Rattle.std.specs.Prelude.{ℕ, ◌≡◌, List, Option, None, Some, map, filter, is_some}
use Rattle.std.specs.List.{AllByRecursion}
use Rattle.object_fields.specs.declared.key.Key.{Key}
use Rattle.api_claim.specs.Limits.{ClaimKept}
use Rattle.pool_view.specs.Names.{at_key}
use Rattle.cluster.specs.declared.plan.Plan.{Plan}
use Rattle.cluster.specs.declared.state.ClaimState.{ClaimState}
use Rattle.cluster.specs.declared.state.PodState.{PodState}
use Rattle.cluster.specs.declared.state.State.{State}
use Rattle.cluster.specs.State.{claims_of}

-- if a node was known, it is this one
abbrev pub IsNode : List ℕ → Option (List ℕ) → Type 0
IsNode node None = Unit {0}
IsNode node (Some other) = other ≡ node

-- The plan knew just the pod's claims, each once and in the pod's order. Those that it knew with a grant, which they had
-- on the plan's node, are its joins.
pub record KnewItsPod (p : PodState) (plan : Plan) : Type 0 where
  pub claims : map (λ k. k.claim) plan.known.claims ≡ claims_of p
  pub joins : plan.joins ≡ map (λ k. k.claim) (filter (λ k. is_some k.node) plan.known.claims)
  pub node : AllByRecursion (λ k. IsNode plan.node k.node) plan.known.claims

-- each claim of the state keeps the limits of its API
pub record KeepLimits (s : State) : Type 0 where
  pub claims : (k : Key) (c : ClaimState) → at_key s.claims k ≡ Some c → ClaimKept c.claim.object
