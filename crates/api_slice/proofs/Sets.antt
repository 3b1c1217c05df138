-- Reading counter sets one by one is reading them step by step.
use Rattle.std.proofs.Common.{◌≡◌, ℕ, ◌+◌, ◌<◌, ◌≤◌, ℤ, List, [], ◌∷◌, ◌++◌, drop, get_or, length, Result, Ok, Err, refl, ap, sym, ◌∙◌}
use Rattle.std.proofs.lemmas.List.{drop_all, drop_more}
use Rattle.serde_json.specs.Data.{Data, Items, no_items, item}
use Rattle.serde_json.specs.View.{items_view, view}
use Rattle.serde_json.specs.declared.value.Value.{Value}
use Rattle.object_fields.specs.Fields.{UnlessMemory, ◌>>=◌}
use Rattle.object_fields.specs.declared.error.FieldError.{FieldError}
use Rattle.object_fields.specs.declared.path.Step.{Step}
use Rattle.object_fields.specs.declared.path.Step.TheVariants as step
use Rattle.api_slice.specs.Counters.{counters_at, new_set_name, sets_from}
use Rattle.api_slice.specs.declared.types.CounterSet.{CounterSet}
use Rattle.api_slice.proofs.Entries.{joined, unless_map}

-- a set with the count of the counters so far
abbrev with_counters : List ℕ → List (List ℕ × ℤ) × ℕ → CounterSet × ℕ
with_counters name counters = (record { name = name; counters = counters.0 }, counters.1)

-- the set at an index, and how many counters there are so far with its own
abbrev pub set_entry : List Step → ℕ → ℕ → List CounterSet → Data → Result (CounterSet × ℕ) FieldError
set_entry path place met before d =
    new_set_name (path ++ step.Place place ∷ []) before d >>= λ name.
    counters_at path (path ++ step.Place place ∷ []) met d >>= λ counters. Ok (record { name = name; counters = counters.0 }, counters.1)

abbrev pub sets_by : List Step → ℕ → ℕ → List CounterSet → Items → Result (List CounterSet) FieldError
sets_by path place met before no_items = Ok before
sets_by path place met before (item d ds) =
    set_entry path place met before d >>= λ s. sets_by path (place + 1) s.1 (before ++ s.0 ∷ []) ds

sets_on : (path : List Step) (place met : ℕ) (before : List CounterSet) (ds : Items) → sets_by path place met before ds ≡ sets_from path place met before ds
sets_on path place met before no_items = refl
sets_on path place met before (item d ds) =
    joined (new_set_name (path ++ step.Place place ∷ []) before d) (counters_at path (path ++ step.Place place ∷ []) met d) with_counters
    (λ s. sets_by path (place + 1) s.1 (before ++ s.0 ∷ []) ds)
    (λ name counters. sets_from path (place + 1) counters.1 (before ++ (with_counters name counters).0 ∷ []) ds)
    (λ name counters. sets_on path (place + 1) counters.1 (before ++ (with_counters name counters).0 ∷ []) ds)

pub sets_are : (path : List Step) (ds : Items) → sets_by path 0 0 [] ds ≡ sets_from path 0 0 [] ds
sets_are path ds = sets_on path 0 0 [] ds

-- the list from an index on
values_at : (vs : List Value) (i : ℕ) (v : Value) → v ≡ get_or vs i v → i < length vs → items_view (drop i vs) ≡ item (view v) (items_view (drop (i + 1) vs))
values_at vs i v e h = ap items_view (drop_more vs i v h ∙ ap (λ u. u ∷ drop (i + 1) vs) (sym e))

-- one set more
pub sets-step : (path : List Step) (vs : List Value) (i : ℕ) (v : Value) (met more : ℕ) (before after : List CounterSet) (s : CounterSet) (whole : Result (List CounterSet) FieldError) →
    v ≡ get_or vs i v → i < length vs → set_entry path i met before (view v) ≡ Ok (s, more) → after ≡ before ++ s ∷ [] →
    sets_by path i met before (items_view (drop i vs)) ≡ whole → sets_by path (i + 1) more after (items_view (drop (i + 1) vs)) ≡ whole
sets-step path vs i v met more before after s whole e h entry put w =
    let rest : Items = items_view (drop (i + 1) vs) in
    ap (λ (f : List CounterSet). sets_by path (i + 1) more f rest) put
    ∙ ap (λ (r : Result (CounterSet × ℕ) FieldError). r >>= λ t. sets_by path (i + 1) t.1 (before ++ t.0 ∷ []) rest) (sym entry)
    ∙ ap (λ (ds : Items). sets_by path i met before ds) (sym (values_at vs i v e h)) ∙ w

-- an error at a set
pub sets-stop : (path : List Step) (vs : List Value) (i : ℕ) (v : Value) (met : ℕ) (before : List CounterSet) (e : FieldError) →
    v ≡ get_or vs i v → i < length vs → UnlessMemory e.kind (set_entry path i met before (view v) ≡ Err e) →
    sets_by path i met before (items_view (drop i vs)) ≡ sets_by path 0 0 [] (items_view vs) → UnlessMemory e.kind (sets_from path 0 0 [] (items_view vs) ≡ Err e)
sets-stop path vs i v met before e is h entry w =
    let rest : Items = items_view (drop (i + 1) vs) in
    unless_map e.kind (λ (f : set_entry path i met before (view v) ≡ Err e).
    sym (sets_are path (items_view vs)) ∙ sym w
    ∙ ap (λ (ds : Items). sets_by path i met before ds) (values_at vs i v is h)
    ∙ ap (λ (r : Result (CounterSet × ℕ) FieldError). r >>= λ t. sets_by path (i + 1) t.1 (before ++ t.0 ∷ []) rest) f) entry

-- no set is left
pub sets-end : (path : List Step) (vs : List Value) (i met : ℕ) (sets : List CounterSet) → length vs ≤ i →
    sets_by path i met sets (items_view (drop i vs)) ≡ sets_by path 0 0 [] (items_view vs) → sets_from path 0 0 [] (items_view vs) ≡ Ok sets
sets-end path vs i met sets none w =
    sym (sets_are path (items_view vs)) ∙ sym w ∙ ap (λ (us : List Value). sets_by path i met sets (items_view us)) (drop_all i vs none)
