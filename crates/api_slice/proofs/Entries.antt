-- Reading entry by entry is reading step by step.
use Rattle.std.proofs.Common.{◌≡◌, ℕ, ◌+◌, ℤ, List, [], ◌∷◌, ◌++◌, Result, Ok, Err, refl}
use Rattle.std.specs.BTreeMap.{insert_entry}
use Rattle.std.specs.Cmp.Lexicographic.{slice_cmp}
use Rattle.std.specs.Ordering.{nat_cmp}
use Rattle.serde_json.specs.Data.{Items, no_items, item, Members, no_members, member}
use Rattle.object_fields.specs.Fields.{UnlessMemory, ◌>>=◌}
use Rattle.object_fields.specs.declared.error.FieldError.{FieldError}
use Rattle.object_fields.specs.declared.kind.FieldErrorKind.{FieldErrorKind}
use Rattle.object_fields.specs.declared.kind.FieldErrorKind.TheVariants as kind
use Rattle.object_fields.specs.declared.path.Step.{Step}
use Rattle.object_fields.specs.declared.path.Step.TheVariants as step
use Rattle.object_fields.specs.declared.qualified.QualName.{QualName}
use Rattle.api_slice.specs.Amounts.{amount_of}
use Rattle.api_slice.specs.Attributes.{attribute_of, attributes_with, new_name, qual_cmp}
use Rattle.api_slice.specs.Capacity.{capacity_with, value_without_policy}
use Rattle.api_slice.specs.Consumption.{amounts_at, draws_from, new_drawn_set}
use Rattle.api_slice.specs.Counters.{counter_name, counters_with}
use Rattle.api_slice.specs.Entries.{attributes_by, capacity_by, counters_by, draws_by}
use Rattle.api_slice.specs.declared.types.Attribute.{Attribute}
use Rattle.api_slice.specs.declared.types.CounterConsumption.{CounterConsumption}

-- two steps whose values are joined before the rest are the two steps and the rest
pub joined : {A B E C : Type 0} (a : Result A FieldError) (b : Result B FieldError) (e : A → B → E) (f : E → Result C FieldError) (g : A → B → Result C FieldError) → ((x : A) → (y : B) → f (e x y) ≡ g x y) → ((a >>= λ x. b >>= λ y. Ok (e x y)) >>= f) ≡ (a >>= λ x. b >>= λ y. g x y)
joined (Err z) b e f g h = refl
joined (Ok x) (Err z) e f g h = refl
joined (Ok x) (Ok y) e f g h = h x y

-- what follows from a fact, where that holds unless out of memory
pub unless_map : {P Q : Type 0} (k : FieldErrorKind) → (P → Q) → UnlessMemory k P → UnlessMemory k Q
unless_map kind.Missing f p = f p
unless_map kind.WrongType f p = f p
unless_map kind.BadName f p = f p
unless_map kind.TooLong f p = f p
unless_map kind.TooMany f p = f p
unless_map kind.NotSupported f p = f p
unless_map kind.Memory f p = tt
unless_map kind.Doubled f p = f p
unless_map kind.OutOfRange f p = f p
unless_map kind.NotOne f p = f p
unless_map kind.BadQuantity f p = f p
unless_map kind.BadVersion f p = f p
unless_map kind.Unknown f p = f p
unless_map (kind.Selector stage) f p = f p

abbrev with_amounts : List ℕ → List (List ℕ × ℤ) × ℕ → CounterConsumption × ℕ
with_amounts set amounts = (record { set = set; amounts = amounts.0 }, amounts.1)

attributes_from : (driver : List ℕ) (path : List Step) (before : List (QualName × Attribute)) (ms : Members) → attributes_by driver path before ms ≡ attributes_with driver path before ms
attributes_from driver path before no_members = refl
attributes_from driver path before (member key d ms) =
    joined (new_name (path ++ step.Key key ∷ []) driver before key) (attribute_of (path ++ step.Key key ∷ []) d) (λ name value. (name, value))
    (λ e. attributes_by driver path (insert_entry qual_cmp before e.0 e.1) ms)
    (λ name value. attributes_with driver path (insert_entry qual_cmp before name value) ms)
    (λ name value. attributes_from driver path (insert_entry qual_cmp before name value) ms)

pub attributes_are : (driver : List ℕ) (path : List Step) (ms : Members) → attributes_by driver path [] ms ≡ attributes_with driver path [] ms
attributes_are driver path ms = attributes_from driver path [] ms

capacity_from : (driver : List ℕ) (path : List Step) (before : List (QualName × ℤ)) (ms : Members) → capacity_by driver path before ms ≡ capacity_with driver path before ms
capacity_from driver path before no_members = refl
capacity_from driver path before (member key d ms) =
    joined (new_name (path ++ step.Key key ∷ []) driver before key) (value_without_policy (path ++ step.Key key ∷ []) d) (λ name amount. (name, amount))
    (λ e. capacity_by driver path (insert_entry qual_cmp before e.0 e.1) ms)
    (λ name amount. capacity_with driver path (insert_entry qual_cmp before name amount) ms)
    (λ name amount. capacity_from driver path (insert_entry qual_cmp before name amount) ms)

pub capacity_is : (driver : List ℕ) (path : List Step) (ms : Members) → capacity_by driver path [] ms ≡ capacity_with driver path [] ms
capacity_is driver path ms = capacity_from driver path [] ms

counters_from : (path : List Step) (before : List (List ℕ × ℤ)) (ms : Members) → counters_by path before ms ≡ counters_with path before ms
counters_from path before no_members = refl
counters_from path before (member key d ms) =
    joined (counter_name (path ++ step.Key key ∷ []) key) (amount_of (path ++ step.Key key ∷ []) d) (λ name amount. (name, amount))
    (λ e. counters_by path (insert_entry (slice_cmp nat_cmp) before e.0 e.1) ms)
    (λ name amount. counters_with path (insert_entry (slice_cmp nat_cmp) before name amount) ms)
    (λ name amount. counters_from path (insert_entry (slice_cmp nat_cmp) before name amount) ms)

pub counters_are : (path : List Step) (ms : Members) → counters_by path [] ms ≡ counters_with path [] ms
counters_are path ms = counters_from path [] ms

draws_on : (path : List Step) (place met : ℕ) (before : List CounterConsumption) (ds : Items) → draws_by path place met before ds ≡ draws_from path place met before ds
draws_on path place met before no_items = refl
draws_on path place met before (item d ds) =
    joined (new_drawn_set (path ++ step.Place place ∷ []) before d) (amounts_at path (path ++ step.Place place ∷ []) met d) with_amounts
    (λ s. draws_by path (place + 1) s.1 (before ++ s.0 ∷ []) ds)
    (λ set amounts. draws_from path (place + 1) amounts.1 (before ++ (with_amounts set amounts).0 ∷ []) ds)
    (λ set amounts. draws_on path (place + 1) amounts.1 (before ++ (with_amounts set amounts).0 ∷ []) ds)

pub draws_are : (path : List Step) (ds : Items) → draws_by path 0 0 [] ds ≡ draws_from path 0 0 [] ds
draws_are path ds = draws_on path 0 0 [] ds
