-- What is read of a DeviceClass (API reference of resource.k8s.io/v1).
use Rattle.std.specs.Prelude.{ℕ, List, [], ◌∷◌, Option, Some, None, Result, Ok, codes}
use Rattle.serde_json.specs.Data.{Data}
use Rattle.object_fields.specs.Fields.{object_at, optional_at, ◌>>=◌}
use Rattle.object_fields.specs.Meta.{meta_at}
use Rattle.object_fields.specs.Selectors.{selectors_at}
use Rattle.object_fields.specs.declared.error.FieldError.{FieldError}
use Rattle.object_fields.specs.declared.meta.Scope.TheVariants.{Cluster}
use Rattle.object_fields.specs.declared.path.Step.TheVariants.{Member}
use Rattle.api_cluster.specs.declared.types.DeviceClass.{DeviceClass}

-- spec may be missing
abbrev pub selectors_in : Option Data → Result (List (List ℕ)) FieldError
selectors_in None = Ok []
selectors_in (Some spec) = selectors_at (Member (codes "spec") ∷ []) spec

abbrev pub spec_at : Data → Result (List (List ℕ)) FieldError
spec_at d = optional_at object_at [] (codes "spec") d >>= selectors_in

-- the metadata, then the selectors
abbrev pub class_of : Data → Result DeviceClass FieldError
class_of d =
    meta_at Cluster d >>= λ meta.
    spec_at d >>= λ selectors.
    Ok (record { name = meta.key.name; version = meta.version; selectors = selectors })
