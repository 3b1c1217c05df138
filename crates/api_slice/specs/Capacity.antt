-- The capacities of a device.
use Rattle.std.specs.Prelude.{ℕ, ◌+◌, nat_lt, ℤ, List, [], ◌∷◌, ◌++◌, Option, Some, None, Result, Ok, ⊤, codes}
use Rattle.std.specs.BTreeMap.{insert_entry}
use Rattle.serde_json.specs.Data.{Data, Members, no_members, member}
use Rattle.object_fields.specs.Fields.{field_error, object_value, optional_at, table_at, unless, unset_at, ◌>>=◌}
use Rattle.object_fields.specs.declared.error.FieldError.{FieldError}
use Rattle.object_fields.specs.declared.kind.FieldErrorKind.TheVariants.{TooMany}
use Rattle.object_fields.specs.declared.path.Step.{Step}
use Rattle.object_fields.specs.declared.path.Step.TheVariants.{Member, Key}
use Rattle.object_fields.specs.declared.qualified.QualName.{QualName}
use Rattle.api_slice.specs.Amounts.{quantity_at}
use Rattle.api_slice.specs.Attributes.{new_name, qual_cmp}
use Rattle.api_slice.specs.Lists.{count_at}

-- a device has at most 32 attributes and capacities together
abbrev pub together_most : ℕ
together_most = 32

-- `value`, a quantity that may be negative; a `requestPolicy` isn't supported
abbrev pub value_without_policy : List Step → Data → Result ℤ FieldError
value_without_policy path value =
    object_value path value >>= λ d.
    quantity_at path (codes "value") d >>= λ amount.
    unset_at path (codes "requestPolicy") d >>= λ nothing.
    Ok amount

-- After those before, the capacities of the members, by their full names.
abbrev pub capacity_with : List ℕ → List Step → List (QualName × ℤ) → Members → Result (List (QualName × ℤ)) FieldError
capacity_with driver path before no_members = Ok before
capacity_with driver path before (member key d ms) =
    new_name (path ++ Key key ∷ []) driver before key >>= λ name.
    value_without_policy (path ++ Key key ∷ []) d >>= λ amount.
    capacity_with driver path (insert_entry qual_cmp before name amount) ms

abbrev pub capacity_in : List ℕ → List Step → Option Members → Result (List (QualName × ℤ)) FieldError
capacity_in driver path None = Ok []
capacity_in driver path (Some ms) = capacity_with driver path [] ms

-- nothing, or the error of too many attributes and capacities
abbrev pub together_at : List Step → Data → Result ⊤ FieldError
together_at path d =
    unless (field_error path (codes "capacity") TooMany)
    (nat_lt together_most (count_at (codes "attributes") d + count_at (codes "capacity") d)) tt

-- a device may have none
abbrev pub capacity_of : List ℕ → List Step → Data → Result (List (QualName × ℤ)) FieldError
capacity_of driver path d =
    optional_at table_at path (codes "capacity") d >>= λ ms.
    together_at path d >>= λ nothing.
    capacity_in driver (path ++ Member (codes "capacity") ∷ []) ms
