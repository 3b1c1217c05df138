-- The claims of a pod that need devices, and those that it joins.
use Rattle.std.specs.Prelude.{ℕ, List, [], ◌∷◌, ◌++◌, Bool, false, not, Option, None, Some, is_none, is_some, find, filter, if◌then◌else◌}
use Rattle.std.specs.List.{list_any}
use Rattle.object_fields.specs.declared.key.Key.{Key}
use Rattle.api_claim.specs.declared.types.ResourceClaim.{ResourceClaim}
use Rattle.api_cluster.specs.declared.types.Pod.{Pod}
use Rattle.pool_view.specs.Names.{at_key, key_eq, text_eq}
use Rattle.cluster.specs.declared.state.State.{State}
use Rattle.cluster.specs.declared.state.ClaimState.{ClaimState}
use Rattle.cluster.specs.declared.state.Granted.{Granted}
use Rattle.cluster.specs.Claims.{claim_keys, first_places}
use Rattle.cluster.specs.State.{may_use}

-- the claims that a pod names, each at its first index
abbrev pub keys_of_pod : Pod → List Key
keys_of_pod p = first_places [] (claim_keys p)

-- the keys with one more at the end, if it isn't among them
abbrev pub added_key : List Key → Key → List Key
added_key keys k = if list_any (λ l. key_eq l k) keys then keys else keys ++ k ∷ []

-- the claim before others, under the key by which the pod names it, if it has no grant
abbrev pub add_ungranted : Key → ClaimState → Option Granted → List ResourceClaim → List ResourceClaim
add_ungranted k c None claims = record c.claim.object { key = k } ∷ claims
add_ungranted k c (Some g) claims = claims

abbrev pub add_wanted : Key → Option ClaimState → List ResourceClaim → List ResourceClaim
add_wanted k None claims = claims
add_wanted k (Some c) claims = add_ungranted k c c.grant claims

-- those of the claims that have no grant
abbrev pub wanted_of : State → List Key → List ResourceClaim
wanted_of s [] = []
wanted_of s (k ∷ ks) = add_wanted k (at_key s.claims k) (wanted_of s ks)

-- the pod's claims without a grant, each at its first index
unfoldable pub wanted : State → Pod → List ResourceClaim
wanted s p = wanted_of s (keys_of_pod p)

abbrev pub has_grant : Option ClaimState → Bool
has_grant None = false
has_grant (Some c) = is_some c.grant

-- the pod's claims with a grant, each at its first index
unfoldable pub joined : State → Pod → List Key
joined s p = filter (λ k. has_grant (at_key s.claims k)) (keys_of_pod p)

abbrev pub is_off : List ℕ → Option Granted → Bool
is_off node None = false
is_off node (Some g) = not (text_eq g.node node)

abbrev pub is_elsewhere : List ℕ → Option ClaimState → Bool
is_elsewhere node None = false
is_elsewhere node (Some c) = is_off node c.grant

-- the first of the pod's claims whose grant is on another node
unfoldable pub other_claim : State → Pod → List ℕ → Option Key
other_claim s p node = find (λ k. is_elsewhere node (at_key s.claims k)) (keys_of_pod p)

-- the first of the pod's claims that doesn't exist
unfoldable pub missing_claim : State → Pod → Option Key
missing_claim s p = find (λ k. is_none (at_key s.claims k)) (keys_of_pod p)

-- the first of the pod's claims that has as many users as it may have, the pod not among them
unfoldable pub full_claim : State → Key → Pod → Option Key
full_claim s pod p = find (λ k. not (may_use pod (at_key s.claims k))) (keys_of_pod p)
