-- The results, claim by claim.
use Rattle.std.specs.Prelude.{ℕ, ◌+◌, ◌==◌, List, [], ◌∷◌, Bool, map, filter}
use Rattle.object_fields.specs.declared.key.DeviceId.{DeviceId}
use Rattle.object_fields.specs.declared.key.Key.{Key}
use Rattle.api_claim.specs.declared.types.ResourceClaim.{ResourceClaim}
use Rattle.request_rules.specs.Names.{result_name}
use Rattle.request_rules.specs.Input.{SearchInput}
use Rattle.request_rules.specs.Allocation.{Result}

-- a device by the name of its request, `request` or `request/subrequest`
pub record NamedResult : Type 0 where
  pub name : List ℕ
  pub device : DeviceId
  pub admin : Bool

-- what a claim is granted
pub record ClaimResults : Type 0 where
  pub claim : Key
  pub results : List NamedResult

abbrev pub named_result : Result → NamedResult
named_result r = record { name = result_name r.label; device = r.device; admin = r.label.admin }

-- those of the claim at an index
abbrev pub results_at : ℕ → List Result → List Result
results_at i rs = filter (λ r. r.label.claim == i) rs

abbrev pub grants_from : ℕ → List ResourceClaim → List Result → List ClaimResults
grants_from i [] rs = []
grants_from i (c ∷ cs) rs = record { claim = c.key; results = map named_result (results_at i rs) } ∷ grants_from (i + 1) cs rs

-- one grant for each claim, even if it has no results, in order
unfoldable pub grants_of : SearchInput → List Result → List ClaimResults
grants_of w rs = grants_from 0 w.claims rs
