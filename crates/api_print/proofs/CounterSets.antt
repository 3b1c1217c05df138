-- Counter sets, and what devices draw from them, read as they are.
use Rattle.std.proofs.Common.{◌≡◌, ℕ, ◌+◌, ◌≤◌, ◌≢◌, ℤ, pos, map, Bool, true, false, ◌||◌, List, [], ◌∷◌, ◌++◌, length, None, Ok, refl, sym, ap, ◌∙◌, append_assoc, arith, inl, inr}
use Rattle.std.specs.Prelude.{codes}
use Rattle.std.proofs.lemmas.Bool.{cases_Bool}
use Rattle.std.proofs.lemmas.Cmp.{nat_list_cmp_total}
use Rattle.std.proofs.lemmas.List.{append-nil}
use Rattle.std.proofs.lemmas.List.Sums.{sum_by-cons}
use Rattle.std.proofs.lemmas.List.Elements.{All-head, All-tail, recursion_from_All}
use Rattle.std.proofs.lemmas.Slice.Eq.{bytes_eq-Decides}
use Rattle.std.specs.Cmp.Lexicographic.{slice_cmp}
use Rattle.std.specs.List.{All, AllByRecursion, list_any, sum_by}
use Rattle.std.specs.List.Sorted.{IsStrictlySortedBy}
use Rattle.std.specs.Map.{keys_of, values_of}
use Rattle.std.specs.Ordering.{nat_cmp}
use Rattle.std.specs.Str.{bytes_eq}
use Rattle.serde_json.specs.Data.{Data, no_members}
use Rattle.serde_json.specs.Find.{get}
use Rattle.object_fields.specs.Names.{label_most}
use Rattle.object_fields.specs.NewNames.{AreDifferent}
use Rattle.object_fields.specs.declared.path.Step.{Step}
use Rattle.object_fields.specs.declared.path.Step.TheVariants.{Key, Member, Place}
use Rattle.api_slice.specs.Amounts.{amount_of}
use Rattle.api_slice.specs.Counters.{counter_name, counter_sets_at, counters_at, counters_most, counters_with, has_set, new_set_name, sets_from}
use Rattle.api_slice.specs.Limits.{IsAmount, IsCounterSet, IsLabel}
use Rattle.api_slice.specs.Lists.{members_length}
use Rattle.api_slice.specs.Nodes.{is_empty}
use Rattle.api_slice.specs.declared.types.CounterSet.{CounterSet}
use Rattle.api_slice.specs.declared.types.Device.{Device}
use Rattle.api_print.specs.Devices.{amount_json, counter_set_json, device_json}
use Rattle.api_print.specs.Ranges.{QuantityInRange, SetInRange}
use Rattle.api_print.specs.Shapes.{list_if, listed, own_text, with_entries}
use Rattle.api_print.proofs.Decimals.{not_longer}
use Rattle.api_print.proofs.Entries.{AllBoth, both, both_values}
use Rattle.api_print.proofs.Readings.{label_read, label_size}
use Rattle.api_print.proofs.Tables.{entries_in_order, in_order, insert_last}

-- ---- amounts

pub record AmountReads (n : ℤ) : Type 0 where
  pub reads : (p : List Step) → amount_of p (amount_json n) ≡ Ok n

amount_from : (p : List Step) (size : ℕ) (n : ℤ) → n ≡ pos size → QuantityInRange n → amount_of p (amount_json n) ≡ Ok n
amount_from p size n is h = rw (h.reads, is) refl

pub amount_reads : (n : ℤ) → IsAmount n → QuantityInRange n → AmountReads n
amount_reads n is h = record { reads = λ p. amount_from p is.size n is.is h }

pub in_order_length : {V : Type 0} (json : V → Data) (es : List (List ℕ × V)) → members_length (in_order json es) ≡ length es
in_order_length json [] = refl
in_order_length json (e ∷ es) = ap (λ n. n + 1) (in_order_length json es) ∙ omega arith

-- ---- the counters of a set

name_back : (p : List Step) (name : List ℕ) → IsLabel name → counter_name p name ≡ Ok name
unfolding counter_name
name_back p name is = rw (not_longer label_most (length name) (label_size name is), is) refl

counters_read : (path : List Step) (done es : List (List ℕ × ℤ)) → IsStrictlySortedBy (slice_cmp nat_cmp) (keys_of (done ++ es)) → AllBoth IsLabel AmountReads es → counters_with path done (in_order amount_json es) ≡ Ok (done ++ es)
counters_read path done [] sorted all = rw (append-nil done) refl
counters_read path done (e ∷ es) sorted all =
    let same : (done ++ e ∷ []) ++ es ≡ done ++ e ∷ es = append_assoc done (e ∷ []) es in
    let more : IsStrictlySortedBy (slice_cmp nat_cmp) (keys_of ((done ++ e ∷ []) ++ es)) = rw same sorted in
    rw (name_back (path ++ Key e.0 ∷ []) e.0 all.0, all.1.reads (path ++ Key e.0 ∷ []), insert_last (slice_cmp nat_cmp) nat_list_cmp_total done e es sorted)
    (counters_read path (done ++ e ∷ []) es more all.2 ∙ ap Ok same)

pub record CountersRead (es : List (List ℕ × ℤ)) : Type 0 where
  pub order : IsStrictlySortedBy (slice_cmp nat_cmp) (keys_of es)
  pub amounts : AllByRecursion AmountReads (values_of es)

pub record SetReads (s : CounterSet) : Type 0 where
  pub name : IsLabel s.name
  pub names : AllByRecursion IsLabel (keys_of s.counters)
  pub counters : CountersRead s.counters

pub set_reads : (s : CounterSet) → IsCounterSet s → SetInRange s → SetReads s
set_reads s kept range = record {
  name = kept.name;
  names = recursion_from_All IsLabel (keys_of s.counters) kept.counters;
  counters = record {
    order = range.counters.order;
    amounts = both_values IsAmount QuantityInRange AmountReads amount_reads (values_of s.counters) (recursion_from_All IsAmount (values_of s.counters) kept.amounts) range.counters.amounts;
  };
}

counters_back : (path : List Step) (s : CounterSet) → SetReads s → counters_with path [] (with_entries own_text amount_json no_members s.counters) ≡ Ok s.counters
counters_back path s h =
    rw (entries_in_order amount_json [] s.counters h.counters.order) (counters_read path [] s.counters h.counters.order (both IsLabel AmountReads s.counters h.names h.counters.amounts))

pub counters_length : (es : List (List ℕ × ℤ)) → IsStrictlySortedBy (slice_cmp nat_cmp) (keys_of es) → members_length (with_entries own_text amount_json no_members es) ≡ length es
counters_length es sorted = rw (entries_in_order amount_json [] es sorted) (in_order_length amount_json es)

counters_found : (list path : List Step) (met : ℕ) (s : CounterSet) → SetReads s → met + length s.counters ≤ counters_most → counters_at list path met (counter_set_json s) ≡ Ok (s.counters, met + length s.counters)
counters_found list path met s h few =
    rw (counters_length s.counters h.counters.order, not_longer counters_most (met + length s.counters) few, counters_back (path ++ Member (codes "counters") ∷ []) s h) refl

-- ---- names that are new

unequal : (a b : List ℕ) → a ≢ b → bytes_eq a b ≡ false
unequal a b h = elim (cases_Bool (bytes_eq a b)) as (λ _. bytes_eq a b ≡ false) [
  | inl is ↦ absurd (h ((bytes_eq-Decides a b).0 is))
  | inr is ↦ is
]

neither : (a b : Bool) → a ≡ false → b ≡ false → (a || b) ≡ false
neither true b p q = p
neither false b p q = q

other_than : (before : List (List ℕ)) (n : List ℕ) (rest : List (List ℕ)) (t : List ℕ) → All (λ other. other ≢ t) (before ++ n ∷ rest) → n ≢ t
other_than [] n rest t h = All-head (λ other. other ≢ t) n rest h
other_than (b ∷ before) n rest t h = other_than before n rest t (All-tail (λ other. other ≢ t) b (before ++ n ∷ rest) h)

-- a name is none of those before it
pub is_new : (before : List (List ℕ)) (n : List ℕ) (rest : List (List ℕ)) → AreDifferent (before ++ n ∷ rest) → list_any (λ other. bytes_eq other n) before ≡ false
is_new [] n rest h = refl
is_new (b ∷ before) n rest h =
    neither (bytes_eq b n) _ (unequal b n (λ e. other_than before n rest b h.0 (sym e))) (is_new before n rest h.1)

-- ---- counter sets

abbrev set_name : CounterSet → List ℕ
set_name s = s.name

names_before : (before : List CounterSet) (n : List ℕ) → has_set n before ≡ list_any (λ other. bytes_eq other n) (map set_name before)
names_before [] n = refl
names_before (s ∷ ss) n = ap (λ b. bytes_eq s.name n || b) (names_before ss n)

pub map_append : {A B : Type 0} (f : A → B) (xs ys : List A) → map f (xs ++ ys) ≡ map f xs ++ map f ys
map_append f [] ys = refl
map_append f (x ∷ xs) ys = ap (λ l. f x ∷ l) (map_append f xs ys)

set_name_back : (p : List Step) (before : List CounterSet) (s : CounterSet) (rest : List CounterSet) → IsLabel s.name → AreDifferent (map set_name (before ++ s ∷ rest)) → new_set_name p before (counter_set_json s) ≡ Ok s.name
set_name_back p before s rest label differ =
    let apart : AreDifferent (map set_name before ++ s.name ∷ map set_name rest) = rw (← map_append set_name before (s ∷ rest)) differ in
    let new : has_set s.name before ≡ false = names_before before s.name ∙ is_new (map set_name before) s.name (map set_name rest) apart in
    rw (label_read p (counter_set_json s) (codes "name") s.name refl label, new) refl

-- the counters of all sets
abbrev set_total : List CounterSet → ℕ
set_total [] = 0
set_total (s ∷ ss) = length s.counters + set_total ss

sets_read : (path : List Step) (place met : ℕ) (before ss : List CounterSet) → AreDifferent (map set_name (before ++ ss)) → AllByRecursion SetReads ss → met + set_total ss ≤ counters_most → sets_from path place met before (listed counter_set_json ss) ≡ Ok (before ++ ss)
sets_read path place met before [] differ all few = rw (append-nil before) refl
sets_read path place met before (s ∷ ss) differ all few =
    let same : (before ++ s ∷ []) ++ ss ≡ before ++ s ∷ ss = append_assoc before (s ∷ []) ss in
    let more : AreDifferent (map set_name ((before ++ s ∷ []) ++ ss)) = rw same differ in
    rw (set_name_back (path ++ Place place ∷ []) before s ss all.0.name differ, counters_found path (path ++ Place place ∷ []) met s all.0 (omega arith))
    (sets_read path (place + 1) (met + length s.counters) (before ++ s ∷ []) ss more all.1 (omega arith) ∙ ap Ok same)

set_total_is : (ss : List CounterSet) → set_total ss ≡ sum_by (λ s. length s.counters) ss
set_total_is [] = refl
set_total_is (s ∷ ss) = omega (arith, set_total_is ss, sum_by-cons (λ (x : CounterSet). length x.counters) s ss)

no_devices : (d : Data) (ds : List Device) → get (codes "devices") d ≡ list_if device_json ds → is_empty ds ≡ true → get (codes "devices") d ≡ None
no_devices d [] h empty = h
no_devices d (x ∷ xs) h empty = cc

-- of a slice without devices or without sets
pub counter_sets_back : (path : List Step) (d : Data) (ss : List CounterSet) (ds : List Device) → get (codes "sharedCounters") d ≡ list_if counter_set_json ss → get (codes "devices") d ≡ list_if device_json ds → (is_empty ss || is_empty ds) ≡ true → AreDifferent (map (λ s. s.name) ss) → AllByRecursion SetReads ss → sum_by (λ s. length s.counters) ss ≤ counters_most → counter_sets_at path d ≡ Ok ss
counter_sets_back path d [] ds h hd one differ all few = rw h refl
counter_sets_back path d (s ∷ ss) ds h hd one differ all few =
    rw (h, no_devices d ds hd one) (sets_read (path ++ Member (codes "sharedCounters") ∷ []) 0 0 [] (s ∷ ss) differ all (omega (arith, set_total_is (s ∷ ss))))
