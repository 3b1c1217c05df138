-- A pod's claims without a grant, by the table of the claims.
use Rattle.std.proofs.Common.{◌≡◌, List, [], ◌∷◌, refl, ap}
use Rattle.object_fields.specs.declared.key.Key.{Key}
use Rattle.api_claim.specs.declared.types.ResourceClaim.{ResourceClaim}
use Rattle.api_cluster.specs.declared.types.Pod.{Pod}
use Rattle.pool_view.specs.Names.{at_key}
use Rattle.cluster.specs.declared.state.State.{State}
use Rattle.allocations.specs.Claims.{add_wanted, keys_of_pod, wanted, wanted_of}
use Rattle.node_inputs.specs.Wanted.{wanted_at}

keys_by : (s : State) (ks : List Key) → wanted_at s.claims ks ≡ wanted_of s ks
keys_by s [] = refl
keys_by s (k ∷ ks) = ap (λ (cs : List ResourceClaim). add_wanted k (at_key s.claims k) cs) (keys_by s ks)

pub wanted_by : (s : State) (p : Pod) → wanted_at s.claims (keys_of_pod p) ≡ wanted s p
unfolding wanted
wanted_by s p = keys_by s (keys_of_pod p)
