-- What contracts see of a claim and of a status.
use Rattle.std.specs.Prelude.{ℕ, List, Option}
use Rattle.object_fields.specs.declared.key.Key.{Key}
use Rattle.api_claim.specs.declared.types.DeviceConstraint.{DeviceConstraint}
use Rattle.api_claim.specs.declared.types.DeviceRequest.{DeviceRequest}
use Rattle.api_claim.specs.declared.types.StatusResult.{StatusResult}

pub record ClaimFields : Type 0 where
  pub key : Key
  pub version : Option ℕ
  pub requests : List DeviceRequest
  pub constraints : List DeviceConstraint

pub record StatusFields : Type 0 where
  pub version : Option ℕ
  pub node : List ℕ
  pub results : List StatusResult
