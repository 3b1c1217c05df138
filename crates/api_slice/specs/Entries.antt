-- Lists and maps that are read one entry after another, each entry by one reading.
use Rattle.std.specs.Prelude.{ℕ, ◌+◌, ℤ, List, [], ◌∷◌, ◌++◌, Result, Ok}
use Rattle.std.specs.BTreeMap.{insert_entry}
use Rattle.std.specs.Cmp.Lexicographic.{slice_cmp}
use Rattle.std.specs.Ordering.{nat_cmp}
use Rattle.serde_json.specs.Data.{Data, Items, no_items, item, Members, no_members, member}
use Rattle.object_fields.specs.Fields.{◌>>=◌}
use Rattle.object_fields.specs.declared.error.FieldError.{FieldError}
use Rattle.object_fields.specs.declared.path.Step.{Step}
use Rattle.object_fields.specs.declared.path.Step.TheVariants.{Place, Key}
use Rattle.object_fields.specs.declared.qualified.QualName.{QualName}
use Rattle.api_slice.specs.Amounts.{amount_of}
use Rattle.api_slice.specs.Attributes.{attribute_of, new_name, qual_cmp}
use Rattle.api_slice.specs.Capacity.{value_without_policy}
use Rattle.api_slice.specs.Consumption.{amounts_at, new_drawn_set}
use Rattle.api_slice.specs.Counters.{counter_name}
use Rattle.api_slice.specs.declared.types.Attribute.{Attribute}
use Rattle.api_slice.specs.declared.types.CounterConsumption.{CounterConsumption}

abbrev pub attribute_entry : List ℕ → List Step → List (QualName × Attribute) → List ℕ → Data → Result (QualName × Attribute) FieldError
attribute_entry driver path before key d =
    new_name (path ++ Key key ∷ []) driver before key >>= λ name.
    attribute_of (path ++ Key key ∷ []) d >>= λ value. Ok (name, value)

abbrev pub attributes_by : List ℕ → List Step → List (QualName × Attribute) → Members → Result (List (QualName × Attribute)) FieldError
attributes_by driver path before no_members = Ok before
attributes_by driver path before (member key d ms) =
    attribute_entry driver path before key d >>= λ e. attributes_by driver path (insert_entry qual_cmp before e.0 e.1) ms

abbrev pub capacity_entry : List ℕ → List Step → List (QualName × ℤ) → List ℕ → Data → Result (QualName × ℤ) FieldError
capacity_entry driver path before key d =
    new_name (path ++ Key key ∷ []) driver before key >>= λ name.
    value_without_policy (path ++ Key key ∷ []) d >>= λ amount. Ok (name, amount)

abbrev pub capacity_by : List ℕ → List Step → List (QualName × ℤ) → Members → Result (List (QualName × ℤ)) FieldError
capacity_by driver path before no_members = Ok before
capacity_by driver path before (member key d ms) =
    capacity_entry driver path before key d >>= λ e. capacity_by driver path (insert_entry qual_cmp before e.0 e.1) ms

abbrev pub counter_entry : List Step → List ℕ → Data → Result (List ℕ × ℤ) FieldError
counter_entry path key d =
    counter_name (path ++ Key key ∷ []) key >>= λ name.
    amount_of (path ++ Key key ∷ []) d >>= λ amount. Ok (name, amount)

abbrev pub counters_by : List Step → List (List ℕ × ℤ) → Members → Result (List (List ℕ × ℤ)) FieldError
counters_by path before no_members = Ok before
counters_by path before (member key d ms) =
    counter_entry path key d >>= λ e. counters_by path (insert_entry (slice_cmp nat_cmp) before e.0 e.1) ms

-- what is drawn from a set, and how many amounts there are so far with its own
abbrev pub draw_entry : List Step → ℕ → ℕ → List CounterConsumption → Data → Result (CounterConsumption × ℕ) FieldError
draw_entry path place met before d =
    new_drawn_set (path ++ Place place ∷ []) before d >>= λ set.
    amounts_at path (path ++ Place place ∷ []) met d >>= λ amounts.
    Ok (record { set = set; amounts = amounts.0 }, amounts.1)

abbrev pub draws_by : List Step → ℕ → ℕ → List CounterConsumption → Items → Result (List CounterConsumption) FieldError
draws_by path place met before no_items = Ok before
draws_by path place met before (item d ds) =
    draw_entry path place met before d >>= λ s. draws_by path (place + 1) s.1 (before ++ s.0 ∷ []) ds
