-- The claims of a pod, and what a plan knows of them.
use Rattle.std.specs.Prelude.{List, [], ◌∷◌, Option, None, Some, option_map, map, if◌then◌else◌}
use Rattle.std.specs.List.{list_any}
use Rattle.object_fields.specs.declared.key.Key.{Key}
use Rattle.api_cluster.specs.declared.types.Pod.{Pod}
use Rattle.pool_view.specs.Names.{key_eq, at_key}
use Rattle.cluster.specs.declared.state.State.{State}
use Rattle.cluster.specs.declared.state.ClaimState.{ClaimState}
use Rattle.cluster.specs.declared.state.PodState.{PodState}
use Rattle.cluster.specs.declared.state.Granted.{Granted}
use Rattle.cluster.specs.declared.plan.Known.{Known}
use Rattle.cluster.specs.declared.plan.KnownClaim.{KnownClaim}

-- the claims that a pod names
abbrev pub claim_keys : Pod → List Key
claim_keys p = map (λ c. record { namespace = p.key.namespace; name = c.claim }) p.claims

-- those that aren't among the seen ones, each at its first occurrence
abbrev pub first_places : List Key → List Key → List Key
first_places seen [] = []
first_places seen (k ∷ ks) = if list_any (λ l. key_eq l k) seen then first_places seen ks else k ∷ first_places (k ∷ seen) ks

abbrev pub known_claim : Key → ClaimState → KnownClaim
known_claim k c = record { claim = k; uid = c.claim.uid; node = option_map (λ (g : Granted). g.node) c.grant }

abbrev pub add_known : Key → Option ClaimState → List KnownClaim → List KnownClaim
add_known k None known = known
add_known k (Some c) known = known_claim k c ∷ known

abbrev pub known_claims : State → List Key → List KnownClaim
known_claims s [] = []
known_claims s (k ∷ ks) = add_known k (at_key s.claims k) (known_claims s ks)

-- the uids of a pod and its claims, and the nodes of their grants
unfoldable pub known_of : State → PodState → Known
known_of s p = record { pod = p.pod.uid; claims = known_claims s (first_places [] (claim_keys p.pod.object)) }
