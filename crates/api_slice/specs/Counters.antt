-- The counter sets of a slice, `sharedCounters`, on which the devices of its pool draw (KEP 4815).
use Rattle.std.specs.Prelude.{ℕ, ◌+◌, ℤ, Bool, not, ◌&&◌, List, [], ◌∷◌, ◌++◌, Result, Ok, ⊤, codes}
use Rattle.std.specs.BTreeMap.{insert_entry}
use Rattle.std.specs.Cmp.Lexicographic.{slice_cmp}
use Rattle.std.specs.List.{list_any}
use Rattle.std.specs.Ordering.{nat_cmp}
use Rattle.std.specs.Str.{bytes_eq}
use Rattle.serde_json.specs.Data.{Data, Items, no_items, item, Members, no_members, member}
use Rattle.object_fields.specs.Names.{is_dns_label, label_most}
use Rattle.object_fields.specs.Fields.{dns_label_at, field_error, has_no_items, list_at, member_of, name_in, object_value, optional_at, table_at, unless, ◌>>=◌}
use Rattle.object_fields.specs.Lists.{items_or_none}
use Rattle.object_fields.specs.declared.error.FieldError.{FieldError}
use Rattle.object_fields.specs.declared.kind.FieldErrorKind.TheVariants.{Doubled, NotOne}
use Rattle.object_fields.specs.declared.path.Step.{Step}
use Rattle.object_fields.specs.declared.path.Step.TheVariants.{Member, Place, Key}
use Rattle.api_slice.specs.Amounts.{amount_of}
use Rattle.api_slice.specs.Lists.{count_on, is_empty_or_none}
use Rattle.api_slice.specs.declared.types.CounterSet.{CounterSet}

-- a slice has at most 32 counters in all
abbrev pub counters_most : ℕ
counters_most = 32

-- the name of a counter, a DNS label
unfoldable pub counter_name : List Step → List ℕ → Result (List ℕ) FieldError
counter_name path key = name_in path label_most is_dns_label key

-- After those before, the counters of the members, each with an amount.
abbrev pub counters_with : List Step → List (List ℕ × ℤ) → Members → Result (List (List ℕ × ℤ)) FieldError
counters_with path counters no_members = Ok counters
counters_with path counters (member key d ms) =
    counter_name (path ++ Key key ∷ []) key >>= λ name.
    amount_of (path ++ Key key ∷ []) d >>= λ amount.
    counters_with path (insert_entry (slice_cmp nat_cmp) counters name amount) ms

-- the name, which none of the sets before has
abbrev pub has_set : List ℕ → List CounterSet → Bool
has_set name sets = list_any (λ s. bytes_eq s.name name) sets

abbrev pub new_set_name : List Step → List CounterSet → Data → Result (List ℕ) FieldError
new_set_name path before value =
    object_value path value >>= dns_label_at path (codes "name") >>= λ name.
    unless (field_error path (codes "name") Doubled) (has_set name before) name

-- The counters of a set, and how many there are so far with them. TooMany is at the list's path.
abbrev pub counters_at : List Step → List Step → ℕ → Data → Result (List (List ℕ × ℤ) × ℕ) FieldError
counters_at list path met d =
    table_at path (codes "counters") d >>= λ ms.
    count_on list counters_most met ms >>= λ more.
    counters_with (path ++ Member (codes "counters") ∷ []) [] ms >>= λ counters.
    Ok (counters, more)

-- the sets from an index on, after those before with that many counters
abbrev pub sets_from : List Step → ℕ → ℕ → List CounterSet → Items → Result (List CounterSet) FieldError
sets_from path place met before no_items = Ok before
sets_from path place met before (item d ds) =
    new_set_name (path ++ Place place ∷ []) before d >>= λ name.
    counters_at path (path ++ Place place ∷ []) met d >>= λ counters.
    sets_from path (place + 1) counters.1 (before ++ record { name = name; counters = counters.0 } ∷ []) ds

-- nothing, or the error of counter sets beside devices
abbrev pub alone_at : List Step → Data → Items → Result ⊤ FieldError
alone_at path spec sets =
    unless (field_error path (codes "sharedCounters") NotOne)
    (not (has_no_items sets) && not (is_empty_or_none (member_of (codes "devices") spec))) tt

abbrev pub sets_at : List Step → Items → Result (List CounterSet) FieldError
sets_at path items = sets_from (path ++ Member (codes "sharedCounters") ∷ []) 0 0 [] items

-- the sets, of which there are none where the slice has devices
abbrev pub sets_alone : List Step → Data → Items → Result (List CounterSet) FieldError
sets_alone path spec items = alone_at path spec items >>= λ nothing. sets_at path items

-- the sets may be missing
abbrev pub counter_sets_at : List Step → Data → Result (List CounterSet) FieldError
counter_sets_at path spec =
    optional_at list_at path (codes "sharedCounters") spec >>= λ items. sets_alone path spec (items_or_none items)
