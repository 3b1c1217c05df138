-- What is read of the constraints of a ResourceClaim (API reference of resource.k8s.io/v1).
use Rattle.std.specs.Prelude.{ℕ, not, List, [], ◌∷◌, ◌++◌, Option, Some, None, Result, Ok, Err, codes}
use Rattle.serde_json.specs.Data.{Data}
use Rattle.object_fields.specs.Fields.{error_at, list_at, object_value, optional_at, text_at, text_value, unless, unset_at, ◌>>=◌}
use Rattle.object_fields.specs.Lists.{each_at, each_in}
use Rattle.object_fields.specs.NewNames.{is_among}
use Rattle.object_fields.specs.Qualified.{cut_at, domain_and_id}
use Rattle.object_fields.specs.declared.error.FieldError.{FieldError}
use Rattle.object_fields.specs.declared.kind.FieldErrorKind.TheVariants.{BadName, Unknown}
use Rattle.object_fields.specs.declared.path.Step.{Step}
use Rattle.object_fields.specs.declared.path.Step.TheVariants.{Member}
use Rattle.object_fields.specs.declared.qualified.QualName.{QualName}
use Rattle.api_claim.specs.declared.types.DeviceConstraint.{DeviceConstraint}

-- a claim has at most 32 constraints
abbrev pub constraints_most : ℕ
constraints_most = 32

-- a text that is one of the names
abbrev pub known_at : List (List ℕ) → List Step → Data → Result (List ℕ) FieldError
known_at names path d =
    text_value path d >>= λ text. unless (error_at path Unknown) (not (is_among text names)) text

-- the requests that a constraint names, of any number
abbrev pub known_requests_at : List (List ℕ) → List Step → Data → Result (List (List ℕ)) FieldError
known_requests_at names path d =
    optional_at list_at path (codes "requests") d >>= each_in (known_at names) (path ++ Member (codes "requests") ∷ [])

-- `domain/id`; an id alone isn't taken
abbrev pub full_name_from : List Step → Option (List ℕ × List ℕ) → Result QualName FieldError
full_name_from path None = Err (error_at path BadName)
full_name_from path (Some p) = domain_and_id path p.0 p.1

abbrev pub full_name_in : List Step → List ℕ → Result QualName FieldError
full_name_in path text = full_name_from path (cut_at 47 text)

abbrev pub attribute_at : List Step → Data → Result QualName FieldError
attribute_at path d =
    text_at path (codes "matchAttribute") d >>= full_name_in (path ++ Member (codes "matchAttribute") ∷ [])

-- distinctAttribute, which must not be set, is looked at first; then requests and matchAttribute
abbrev pub constraint_at : List (List ℕ) → List Step → Data → Result DeviceConstraint FieldError
constraint_at names path d =
    object_value path d >>= λ constraint.
    unset_at path (codes "distinctAttribute") constraint >>= λ u.
    known_requests_at names path constraint >>= λ requests.
    attribute_at path constraint >>= λ attribute.
    Ok (record { requests = requests; attribute = attribute })

-- of a claim whose requests have these names
abbrev pub constraints_at : List (List ℕ) → List Step → Data → Result (List DeviceConstraint) FieldError
constraints_at names path devices =
    each_at constraints_most (constraint_at names) path (codes "constraints") devices
