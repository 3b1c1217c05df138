-- What is read of the status of a ResourceClaim (API reference of resource.k8s.io/v1).
use Rattle.std.specs.Prelude.{ℕ, ◌&&◌, Bool, false, List, [], ◌∷◌, ◌++◌, Option, Some, None, Result, Ok, codes, option_and_then, if◌then◌else◌}
use Rattle.std.specs.Str.{bytes_eq}
use Rattle.serde_json.specs.Data.{Data, Items, no_items, item}
use Rattle.serde_json.specs.Find.{as_array, as_str}
use Rattle.object_fields.specs.Fields.{field_error, member_of, object_at, object_value, some_or, text_at, unset_at, ◌>>=◌}
use Rattle.object_fields.specs.Lists.{each}
use Rattle.object_fields.specs.Meta.{meta_at}
use Rattle.object_fields.specs.declared.error.FieldError.{FieldError}
use Rattle.object_fields.specs.declared.key.DeviceId.{DeviceId}
use Rattle.object_fields.specs.declared.kind.FieldErrorKind.TheVariants.{NotSupported}
use Rattle.object_fields.specs.declared.meta.Scope.TheVariants.{Namespaced}
use Rattle.object_fields.specs.declared.path.Step.{Step}
use Rattle.object_fields.specs.declared.path.Step.TheVariants.{Member}
use Rattle.api_claim.specs.Asks.{admin_at}
use Rattle.api_claim.specs.Lists.{has_some, some_items_at}
use Rattle.api_claim.specs.declared.status.Allocation.{Allocation}
use Rattle.api_claim.specs.declared.types.ClaimStatus.{ClaimStatus}
use Rattle.api_claim.specs.declared.types.StatusResult.{StatusResult}

-- ---- row `status.allocation.devices.results`: 1 to 32

abbrev pub results_most : ℕ
results_most = 32

-- driver, pool and device, each any text
abbrev pub device_id_at : List Step → Data → Result DeviceId FieldError
device_id_at path d =
    text_at path (codes "driver") d >>= λ driver.
    text_at path (codes "pool") d >>= λ pool.
    text_at path (codes "device") d >>= λ device.
    Ok (record { driver = driver; pool = pool; device = device })

-- request, any text; the device; adminAccess
abbrev pub result_at : List Step → Data → Result StatusResult FieldError
result_at path d =
    object_value path d >>= λ r.
    text_at path (codes "request") r >>= λ request.
    device_id_at path r >>= λ device.
    admin_at path r >>= λ admin.
    Ok (record { request = request; device = device; admin = admin })

abbrev pub results_at : List Step → Data → Result (List StatusResult) FieldError
results_at path allocation =
    object_at path (codes "devices") allocation >>= λ devices.
    some_items_at results_most (path ++ Member (codes "devices") ∷ []) (codes "results") devices >>= each result_at ((path ++ Member (codes "devices") ∷ []) ++ Member (codes "results") ∷ [])

-- ---- row `status.allocation.nodeSelector`

-- the one item of a list of one
abbrev pub only_item : Items → Option Data
only_item no_items = None
only_item (item d no_items) = Some d
only_item (item d (item e ds)) = None

-- the one item of the list of that name
abbrev pub only_of : List ℕ → Data → Option Data
only_of name d = option_and_then only_item (option_and_then as_array (member_of name d))

abbrev pub is_text : List ℕ → Option (List ℕ) → Bool
is_text want None = false
is_text want (Some s) = bytes_eq s want

-- the member of that name is that text
abbrev pub says : List ℕ → List ℕ → Data → Bool
says name want d = is_text want (option_and_then as_str (member_of name d))

-- `metadata.name` In one value
abbrev pub field_node : Data → Option (List ℕ)
field_node d =
    if says (codes "key") (codes "metadata.name") d && says (codes "operator") (codes "In") d
    then option_and_then as_str (only_of (codes "values") d) else None

-- no matchExpressions, and one of matchFields
abbrev pub term_node : Data → Option (List ℕ)
term_node d =
    if has_some (codes "matchExpressions") d then None else option_and_then field_node (only_of (codes "matchFields") d)

-- one term
abbrev pub selector_node : Data → Option (List ℕ)
selector_node d = option_and_then term_node (only_of (codes "nodeSelectorTerms") d)

-- the node that the selector names; any other selector is not supported
abbrev pub node_at : List Step → Data → Result (List ℕ) FieldError
node_at path allocation =
    object_at path (codes "nodeSelector") allocation >>= λ selector.
    some_or (field_error path (codes "nodeSelector") NotSupported) (selector_node selector)

-- ---- the rows together

-- results, then the node
abbrev pub allocation_in : List Step → Data → Result Allocation FieldError
allocation_in path allocation =
    results_at path allocation >>= λ results.
    node_at path allocation >>= λ node.
    Ok (record { results = results; node = node })

abbrev pub allocation_at : List Step → Data → Result Allocation FieldError
allocation_at path status =
    object_at path (codes "allocation") status >>= allocation_in (path ++ Member (codes "allocation") ∷ [])

-- the allocation, then reservedFor, which must not be set
abbrev pub members_at : List Step → Data → Result Allocation FieldError
members_at path status =
    allocation_at path status >>= λ allocation.
    unset_at path (codes "reservedFor") status >>= λ u.
    Ok allocation

abbrev pub status_at : Data → Result Allocation FieldError
status_at d = object_at [] (codes "status") d >>= members_at (Member (codes "status") ∷ [])

-- the metadata, then the status; `spec` isn't looked at
abbrev pub status_of : Data → Result ClaimStatus FieldError
status_of d =
    meta_at Namespaced d >>= λ meta.
    status_at d >>= λ allocation.
    Ok (record { version = meta.version; node = allocation.node; results = allocation.results })
