-- What `exactly` and each subrequest of a ResourceClaim ask for (API reference of
-- resource.k8s.io/v1): one row of fields, read over all requests.
use Rattle.std.specs.Prelude.{ℕ, zero, suc, ◌^◌, ◌-◌, Bool, true, false, List, [], ◌∷◌, ◌++◌, Option, Some, None, Result, Ok, Err, codes, unwrap_or, if◌then◌else◌}
use Rattle.std.specs.Str.{bytes_eq}
use Rattle.serde_json.specs.Data.{Data}
use Rattle.object_fields.specs.Fields.{field_error, list_at, natural_at, object_at, object_value, optional_at, text_at, truth_at, unset_at, ◌>>=◌}
use Rattle.object_fields.specs.Lists.{each}
use Rattle.object_fields.specs.Selectors.{selectors_at}
use Rattle.object_fields.specs.declared.error.FieldError.{FieldError}
use Rattle.object_fields.specs.declared.kind.FieldErrorKind.TheVariants.{NotSupported}
use Rattle.object_fields.specs.declared.path.Step.{Step}
use Rattle.object_fields.specs.declared.path.Step.TheVariants.{Member}
use Rattle.device_taints.specs.Reading.{tolerations_at}
use Rattle.api_claim.specs.Lists.{has_some}
use Rattle.api_claim.specs.declared.asks.Asked.{Asked}
use Rattle.api_claim.specs.declared.asks.Asked.TheVariants as asked
use Rattle.api_claim.specs.declared.asks.Selection.{Selection}
use Rattle.api_claim.specs.declared.types.AllocationMode.{AllocationMode}
use Rattle.api_claim.specs.declared.types.AllocationMode.TheVariants.{ExactCount, All}
use Rattle.api_claim.specs.declared.types.DeviceAsk.{DeviceAsk}
use Rattle.api_claim.specs.declared.types.ExactDeviceRequest.{ExactDeviceRequest}

-- ---- allocationMode with count

-- whether the value asks for all devices; there are two values
abbrev pub all_meant : List Step → List ℕ → Result Bool FieldError
all_meant path word =
    if bytes_eq word (codes "ExactCount") then Ok false
    else (if bytes_eq word (codes "All") then Ok true else Err (field_error path (codes "allocationMode") NotSupported))

-- `ExactCount` is the default
abbrev pub all_in : List Step → Option (List ℕ) → Result Bool FieldError
all_in path None = Ok false
all_in path (Some word) = all_meant path word

abbrev pub all_at : List Step → Data → Result Bool FieldError
all_at path d = optional_at text_at path (codes "allocationMode") d >>= all_in path

-- with `ExactCount` it is 0 to 2^31-1, and with `All` it is 0, if it is there
abbrev pub count_most : Bool → ℕ
count_most false = 2 ^ 31 - 1
count_most true = 0

abbrev pub count_at : Bool → List Step → Data → Result (Option ℕ) FieldError
count_at all path d = optional_at (natural_at 0 (count_most all)) path (codes "count") d

-- a count that is 0 or missing is 1
abbrev pub counted : Option ℕ → AllocationMode
counted None = ExactCount 1
counted (Some zero) = ExactCount 1
counted (Some (suc n)) = ExactCount (suc n)

abbrev pub mode_with : Bool → Option ℕ → AllocationMode
mode_with true count = All
mode_with false count = counted count

-- allocationMode, then count
abbrev pub mode_at : List Step → Data → Result AllocationMode FieldError
mode_at path d =
    all_at path d >>= λ all. count_at all path d >>= λ count. Ok (mode_with all count)

-- ---- the row

-- deviceClassName, any text; selectors; allocationMode; count
abbrev pub selection_at : List Step → Data → Result Selection FieldError
selection_at path d =
    text_at path (codes "deviceClassName") d >>= λ class.
    selectors_at path d >>= λ selectors.
    mode_at path d >>= λ mode.
    Ok (record { class = class; selectors = selectors; mode = mode })

-- then tolerations, and capacity, which must not be set
abbrev pub ask_with : Selection → List Step → Data → Result DeviceAsk FieldError
ask_with selection path d =
    tolerations_at path d >>= λ tolerations.
    unset_at path (codes "capacity") d >>= λ u.
    Ok (record { class = selection.class; selectors = selection.selectors; mode = selection.mode; tolerations = tolerations })

-- false is the default
abbrev pub admin_at : List Step → Data → Result Bool FieldError
admin_at path d = optional_at truth_at path (codes "adminAccess") d >>= λ admin. Ok (unwrap_or admin false)

-- of `exactly`: the row with adminAccess, before tolerations
abbrev pub exactly_in : List Step → Data → Result ExactDeviceRequest FieldError
exactly_in path d =
    selection_at path d >>= λ selection.
    admin_at path d >>= λ admin.
    ask_with selection path d >>= λ ask.
    Ok (record { ask = ask; admin = admin })

-- of a subrequest: the row without adminAccess, which isn't looked at
abbrev pub subrequest_in : List Step → Data → Result DeviceAsk FieldError
subrequest_in path d =
    object_value path d >>= λ subrequest.
    selection_at path subrequest >>= λ selection.
    ask_with selection path subrequest

abbrev pub exactly_at : List Step → Data → Result ExactDeviceRequest FieldError
exactly_at path request =
    object_at path (codes "exactly") request >>= exactly_in (path ++ Member (codes "exactly") ∷ [])

abbrev pub first_available_at : List Step → Data → Result (List DeviceAsk) FieldError
first_available_at path request =
    list_at path (codes "firstAvailable") request >>= each subrequest_in (path ++ Member (codes "firstAvailable") ∷ [])

-- what one request asks for; an empty `firstAvailable` counts as not there
abbrev pub asked_at : List Step → Data → Result Asked FieldError
asked_at path request =
    if has_some (codes "firstAvailable") request
    then (first_available_at path request >>= λ asks. Ok (asked.FirstAvailable asks))
    else (exactly_at path request >>= λ exactly. Ok (asked.Exactly exactly))
