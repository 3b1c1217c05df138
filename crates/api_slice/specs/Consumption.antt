-- What a device draws from counter sets of its pool, `consumesCounters` (KEP 4815).
use Rattle.std.specs.Prelude.{ℕ, ◌+◌, ℤ, Bool, List, [], ◌∷◌, ◌++◌, Result, Ok, codes}
use Rattle.std.specs.BTreeMap.{insert_entry}
use Rattle.std.specs.Cmp.Lexicographic.{slice_cmp}
use Rattle.std.specs.List.{list_any}
use Rattle.std.specs.Ordering.{nat_cmp}
use Rattle.std.specs.Str.{bytes_eq}
use Rattle.serde_json.specs.Data.{Data, Items, no_items, item, Members, no_members, member}
use Rattle.object_fields.specs.Fields.{field_error, list_at, object_value, optional_at, table_at, text_at, unless, ◌>>=◌}
use Rattle.object_fields.specs.Lists.{items_or_none}
use Rattle.object_fields.specs.declared.error.FieldError.{FieldError}
use Rattle.object_fields.specs.declared.kind.FieldErrorKind.TheVariants.{Doubled}
use Rattle.object_fields.specs.declared.path.Step.{Step}
use Rattle.object_fields.specs.declared.path.Step.TheVariants.{Member, Place, Key}
use Rattle.api_slice.specs.Amounts.{amount_of}
use Rattle.api_slice.specs.Lists.{count_on}
use Rattle.api_slice.specs.declared.types.CounterConsumption.{CounterConsumption}

-- a device draws at most 32 amounts in all
abbrev pub amounts_most : ℕ
amounts_most = 32

-- After those before, the amounts of the members, by the names of counters.
abbrev pub amounts_with : List Step → List (List ℕ × ℤ) → Members → Result (List (List ℕ × ℤ)) FieldError
amounts_with path amounts no_members = Ok amounts
amounts_with path amounts (member key d ms) =
    amount_of (path ++ Key key ∷ []) d >>= λ amount.
    amounts_with path (insert_entry (slice_cmp nat_cmp) amounts key amount) ms

abbrev pub draws_on : List ℕ → List CounterConsumption → Bool
draws_on name before = list_any (λ c. bytes_eq c.set name) before

-- the name of the set from which is drawn, any text; nothing before draws from it
abbrev pub new_drawn_set : List Step → List CounterConsumption → Data → Result (List ℕ) FieldError
new_drawn_set path before value =
    object_value path value >>= text_at path (codes "counterSet") >>= λ name.
    unless (field_error path (codes "counterSet") Doubled) (draws_on name before) name

-- The amounts that are drawn from a set, and how many there are so far with them. TooMany is at the
-- list's path.
abbrev pub amounts_at : List Step → List Step → ℕ → Data → Result (List (List ℕ × ℤ) × ℕ) FieldError
amounts_at list path met d =
    table_at path (codes "counters") d >>= λ ms.
    count_on list amounts_most met ms >>= λ more.
    amounts_with (path ++ Member (codes "counters") ∷ []) [] ms >>= λ amounts.
    Ok (amounts, more)

-- what is drawn from an index on, after what came before with that many amounts
abbrev pub draws_from : List Step → ℕ → ℕ → List CounterConsumption → Items → Result (List CounterConsumption) FieldError
draws_from path place met before no_items = Ok before
draws_from path place met before (item d ds) =
    new_drawn_set (path ++ Place place ∷ []) before d >>= λ set.
    amounts_at path (path ++ Place place ∷ []) met d >>= λ amounts.
    draws_from path (place + 1) amounts.1 (before ++ record { set = set; amounts = amounts.0 } ∷ []) ds

-- a device may draw nothing
abbrev pub consumes_of : List Step → Data → Result (List CounterConsumption) FieldError
consumes_of path d =
    optional_at list_at path (codes "consumesCounters") d >>= λ items.
    draws_from (path ++ Member (codes "consumesCounters") ∷ []) 0 0 [] (items_or_none items)
