-- The claims of a pod that need devices, by the table of the claims.
use Rattle.std.specs.Prelude.{List, [], ◌∷◌}
use Rattle.object_fields.specs.declared.key.Key.{Key}
use Rattle.api_claim.specs.declared.types.ResourceClaim.{ResourceClaim}
use Rattle.pool_view.specs.Names.{at_key}
use Rattle.cluster.specs.declared.state.ClaimState.{ClaimState}
use Rattle.allocations.specs.Claims.{add_wanted}

-- those of the claims that are there and have no grant
abbrev pub wanted_at : List (Key × ClaimState) → List Key → List ResourceClaim
wanted_at claims [] = []
wanted_at claims (k ∷ ks) = add_wanted k (at_key claims k) (wanted_at claims ks)
