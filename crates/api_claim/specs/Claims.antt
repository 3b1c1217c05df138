-- What is read of a ResourceClaim (API reference of resource.k8s.io/v1).
use Rattle.std.specs.Prelude.{List, [], ◌∷◌, Result, Ok, codes}
use Rattle.serde_json.specs.Data.{Data}
use Rattle.object_fields.specs.Fields.{object_at, ◌>>=◌}
use Rattle.object_fields.specs.Meta.{meta_at}
use Rattle.object_fields.specs.declared.error.FieldError.{FieldError}
use Rattle.object_fields.specs.declared.meta.Scope.TheVariants.{Namespaced}
use Rattle.object_fields.specs.declared.path.Step.{Step}
use Rattle.object_fields.specs.declared.path.Step.TheVariants.{Member}
use Rattle.api_claim.specs.Constraints.{constraints_at}
use Rattle.api_claim.specs.Requests.{all_names, requests_at}
use Rattle.api_claim.specs.declared.claim.Devices.{Devices}
use Rattle.api_claim.specs.declared.types.DeviceConstraint.{DeviceConstraint}
use Rattle.api_claim.specs.declared.types.DeviceRequest.{DeviceRequest}
use Rattle.api_claim.specs.declared.types.ResourceClaim.{ResourceClaim}

-- the constraints that name these requests
abbrev pub constraints_over : List DeviceRequest → List Step → Data → Result (List DeviceConstraint) FieldError
constraints_over requests path devices = constraints_at (all_names requests) path devices

-- the constraints after the requests
abbrev pub devices_with : List DeviceRequest → List Step → Data → Result Devices FieldError
devices_with requests path devices =
    constraints_over requests path devices >>= λ constraints.
    Ok (record { requests = requests; constraints = constraints })

-- the rows of the requests, then the constraints
abbrev pub devices_in : List Step → Data → Result Devices FieldError
devices_in path devices =
    requests_at path devices >>= λ requests. devices_with requests path devices

-- `spec.devices`
abbrev pub devices_at : Data → Result Devices FieldError
devices_at d =
    object_at [] (codes "spec") d >>= λ spec.
    object_at (Member (codes "spec") ∷ []) (codes "devices") spec >>= λ devices.
    devices_in (Member (codes "spec") ∷ Member (codes "devices") ∷ []) devices

-- the metadata, then the spec; `status` isn't looked at
abbrev pub claim_of : Data → Result ResourceClaim FieldError
claim_of d =
    meta_at Namespaced d >>= λ meta.
    devices_at d >>= λ devices.
    Ok (record { key = meta.key; version = meta.version; requests = devices.requests; constraints = devices.constraints })
