-- What is read of the requests of a ResourceClaim (API reference of resource.k8s.io/v1), row by row.
use Rattle.std.specs.Prelude.{ℕ, Bool, true, false, not, List, [], ◌∷◌, ◌++◌, map, is_some, Result, Ok, codes, if◌then◌else◌}
use Rattle.std.specs.List.{zip, flat_map}
use Rattle.serde_json.specs.Data.{Data, Items}
use Rattle.object_fields.specs.Fields.{error_at, member_of, object_value, short_list_at, unless, ◌>>=◌}
use Rattle.object_fields.specs.Lists.{each, each_beside}
use Rattle.object_fields.specs.declared.error.FieldError.{FieldError}
use Rattle.object_fields.specs.declared.kind.FieldErrorKind.TheVariants.{NotOne}
use Rattle.object_fields.specs.declared.path.Step.{Step}
use Rattle.object_fields.specs.declared.path.Step.TheVariants.{Member}
use Rattle.api_claim.specs.Asks.{asked_at}
use Rattle.api_claim.specs.Lists.{has_some, new_name_at, some_items_at}
use Rattle.api_claim.specs.declared.asks.Asked.{Asked}
use Rattle.api_claim.specs.declared.asks.Asked.TheVariants as asked
use Rattle.api_claim.specs.declared.types.DeviceAsk.{DeviceAsk}
use Rattle.api_claim.specs.declared.types.DeviceRequest.{DeviceRequest}
use Rattle.api_claim.specs.declared.types.DeviceSubRequest.{DeviceSubRequest}
use Rattle.api_claim.specs.declared.types.RequestKind.{RequestKind}
use Rattle.api_claim.specs.declared.types.RequestKind.TheVariants as kind

-- ---- row `spec.devices.requests`: 1 to 32, each with its name, and exactly one of two members

abbrev pub requests_most : ℕ
requests_most = 32

-- one of two tests holds, and the other doesn't
abbrev pub one_of : Bool → Bool → Bool
one_of true b = not b
one_of false b = b

-- an empty `firstAvailable` counts as not there
abbrev pub has_one_kind : Data → Bool
has_one_kind request =
    one_of (is_some (member_of (codes "exactly") request)) (has_some (codes "firstAvailable") request)

-- a name that is new, then exactly one of `exactly` and `firstAvailable`
abbrev pub request_name_at : List Step → List (List ℕ) → Data → Result (List ℕ) FieldError
request_name_at path before d =
    object_value path d >>= λ request.
    new_name_at path before request >>= λ name.
    unless (error_at path NotOne) (not (has_one_kind request)) name

-- ---- row `firstAvailable`: 1 to 8 subrequests, each with its name

abbrev pub subrequests_most : ℕ
subrequests_most = 8

abbrev pub subrequest_name_at : List Step → List (List ℕ) → Data → Result (List ℕ) FieldError
subrequest_name_at path before d = object_value path d >>= new_name_at path before

-- the names of a request's subrequests: none if it has none
abbrev pub subrequest_names_at : List Step → Data → Result (List (List ℕ)) FieldError
subrequest_names_at path request =
    if has_some (codes "firstAvailable") request
    then short_list_at subrequests_most path (codes "firstAvailable") request >>= each_beside subrequest_name_at (path ++ Member (codes "firstAvailable") ∷ [])
    else Ok []

-- ---- the rows together

abbrev pub subrequest_of : List ℕ × DeviceAsk → DeviceSubRequest
subrequest_of p = record { name = p.0; ask = p.1 }

abbrev pub kind_with : Asked → List (List ℕ) → RequestKind
kind_with (asked.Exactly exactly) names = kind.Exactly exactly
kind_with (asked.FirstAvailable asks) names = kind.FirstAvailable (map subrequest_of (zip names asks))

abbrev pub kind_of : Asked × List (List ℕ) → RequestKind
kind_of p = kind_with p.0 p.1

abbrev pub request_of : List ℕ × RequestKind → DeviceRequest
request_of p = record { name = p.0; kind = p.1 }

-- what all requests ask for, then all names of subrequests
abbrev pub kinds_in : List Step → Items → Result (List RequestKind) FieldError
kinds_in path ds =
    each asked_at path ds >>= λ asks.
    each subrequest_names_at path ds >>= λ names.
    Ok (map kind_of (zip asks names))

-- the names of all requests, then the rest of them
abbrev pub requests_in : List Step → Items → Result (List DeviceRequest) FieldError
requests_in path ds =
    each_beside request_name_at path ds >>= λ names.
    kinds_in path ds >>= λ kinds.
    Ok (map request_of (zip names kinds))

abbrev pub requests_at : List Step → Data → Result (List DeviceRequest) FieldError
requests_at path devices =
    some_items_at requests_most path (codes "requests") devices >>= requests_in (path ++ Member (codes "requests") ∷ [])

-- ---- the names by which constraints and results call them

-- `request/subrequest`
abbrev pub joined_name : List ℕ → DeviceSubRequest → List ℕ
joined_name request subrequest = request ++ codes "/" ++ subrequest.name

abbrev pub inner_names : List ℕ → RequestKind → List (List ℕ)
inner_names request (kind.Exactly exactly) = []
inner_names request (kind.FirstAvailable subrequests) = map (joined_name request) subrequests

abbrev pub names_of : DeviceRequest → List (List ℕ)
names_of r = r.name ∷ inner_names r.name r.kind

abbrev pub all_names : List DeviceRequest → List (List ℕ)
all_names = flat_map names_of
