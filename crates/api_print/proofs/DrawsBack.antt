-- What a device draws from counter sets reads as it is.
use Rattle.std.proofs.Common.{◌≡◌, ℕ, ◌+◌, ◌≤◌, ℤ, map, false, ◌||◌, List, [], ◌∷◌, ◌++◌, length, Ok, refl, ap, ◌∙◌, append_assoc, arith}
use Rattle.std.specs.Prelude.{codes}
use Rattle.std.proofs.lemmas.Cmp.{nat_list_cmp_total}
use Rattle.std.proofs.lemmas.List.{append-nil}
use Rattle.std.proofs.lemmas.List.Elements.{recursion_from_All}
use Rattle.std.proofs.lemmas.List.Sums.{sum_by-cons}
use Rattle.std.specs.Cmp.Lexicographic.{slice_cmp}
use Rattle.std.specs.List.{AllByRecursion, list_any, sum_by}
use Rattle.std.specs.List.Sorted.{IsStrictlySortedBy}
use Rattle.std.specs.Map.{keys_of, values_of}
use Rattle.std.specs.Ordering.{nat_cmp}
use Rattle.std.specs.Str.{bytes_eq}
use Rattle.serde_json.specs.Data.{Data, no_members}
use Rattle.serde_json.specs.Find.{get}
use Rattle.object_fields.specs.NewNames.{AreDifferent}
use Rattle.object_fields.specs.declared.path.Step.{Step}
use Rattle.object_fields.specs.declared.path.Step.TheVariants.{Key, Member, Place}
use Rattle.api_slice.specs.Consumption.{amounts_at, amounts_most, amounts_with, consumes_of, draws_from, draws_on, new_drawn_set}
use Rattle.api_slice.specs.Limits.{IsAmount, IsDraw}
use Rattle.api_slice.specs.declared.types.CounterConsumption.{CounterConsumption}
use Rattle.api_print.specs.Devices.{amount_json, consumption_json}
use Rattle.api_print.specs.Ranges.{DrawInRange, QuantityInRange}
use Rattle.api_print.specs.Shapes.{list_if, listed, own_text, with_entries}
use Rattle.api_print.proofs.CounterSets.{AmountReads, CountersRead, amount_reads, counters_length, is_new, map_append}
use Rattle.api_print.proofs.Decimals.{not_longer}
use Rattle.api_print.proofs.Entries.{both_values}
use Rattle.api_print.proofs.Tables.{entries_in_order, in_order, insert_last}

-- ---- amounts

amounts_read : (path : List Step) (done es : List (List ℕ × ℤ)) → IsStrictlySortedBy (slice_cmp nat_cmp) (keys_of (done ++ es)) → AllByRecursion AmountReads (values_of es) → amounts_with path done (in_order amount_json es) ≡ Ok (done ++ es)
amounts_read path done [] sorted all = rw (append-nil done) refl
amounts_read path done (e ∷ es) sorted all =
    let same : (done ++ e ∷ []) ++ es ≡ done ++ e ∷ es = append_assoc done (e ∷ []) es in
    let more : IsStrictlySortedBy (slice_cmp nat_cmp) (keys_of ((done ++ e ∷ []) ++ es)) = rw same sorted in
    rw (all.0.reads (path ++ Key e.0 ∷ []), insert_last (slice_cmp nat_cmp) nat_list_cmp_total done e es sorted)
    (amounts_read path (done ++ e ∷ []) es more all.1 ∙ ap Ok same)

pub record DrawReads (c : CounterConsumption) : Type 0 where
  pub amounts : CountersRead c.amounts

pub draw_reads : (c : CounterConsumption) → IsDraw c → DrawInRange c → DrawReads c
draw_reads c kept range = record {
  amounts = record {
    order = range.amounts.order;
    amounts = both_values IsAmount QuantityInRange AmountReads amount_reads (values_of c.amounts) (recursion_from_All IsAmount (values_of c.amounts) kept.amounts) range.amounts.amounts;
  };
}

amounts_back : (path : List Step) (c : CounterConsumption) → DrawReads c → amounts_with path [] (with_entries own_text amount_json no_members c.amounts) ≡ Ok c.amounts
amounts_back path c h =
    rw (entries_in_order amount_json [] c.amounts h.amounts.order) (amounts_read path [] c.amounts h.amounts.order h.amounts.amounts)

amounts_found : (list path : List Step) (met : ℕ) (c : CounterConsumption) → DrawReads c → met + length c.amounts ≤ amounts_most → amounts_at list path met (consumption_json c) ≡ Ok (c.amounts, met + length c.amounts)
amounts_found list path met c h few =
    rw (counters_length c.amounts h.amounts.order, not_longer amounts_most (met + length c.amounts) few, amounts_back (path ++ Member (codes "counters") ∷ []) c h) refl

-- ---- draws

abbrev set_drawn : CounterConsumption → List ℕ
set_drawn c = c.set

sets_before : (before : List CounterConsumption) (n : List ℕ) → draws_on n before ≡ list_any (λ other. bytes_eq other n) (map set_drawn before)
sets_before [] n = refl
sets_before (c ∷ cs) n = ap (λ b. bytes_eq c.set n || b) (sets_before cs n)

drawn_set_back : (p : List Step) (before : List CounterConsumption) (c : CounterConsumption) (rest : List CounterConsumption) → AreDifferent (map set_drawn (before ++ c ∷ rest)) → new_drawn_set p before (consumption_json c) ≡ Ok c.set
drawn_set_back p before c rest differ =
    let apart : AreDifferent (map set_drawn before ++ c.set ∷ map set_drawn rest) = rw (← map_append set_drawn before (c ∷ rest)) differ in
    let new : draws_on c.set before ≡ false = sets_before before c.set ∙ is_new (map set_drawn before) c.set (map set_drawn rest) apart in
    rw new refl

abbrev draw_total : List CounterConsumption → ℕ
draw_total [] = 0
draw_total (c ∷ cs) = length c.amounts + draw_total cs

draws_read : (path : List Step) (place met : ℕ) (before cs : List CounterConsumption) → AreDifferent (map set_drawn (before ++ cs)) → AllByRecursion DrawReads cs → met + draw_total cs ≤ amounts_most → draws_from path place met before (listed consumption_json cs) ≡ Ok (before ++ cs)
draws_read path place met before [] differ all few = rw (append-nil before) refl
draws_read path place met before (c ∷ cs) differ all few =
    let same : (before ++ c ∷ []) ++ cs ≡ before ++ c ∷ cs = append_assoc before (c ∷ []) cs in
    let more : AreDifferent (map set_drawn ((before ++ c ∷ []) ++ cs)) = rw same differ in
    rw (drawn_set_back (path ++ Place place ∷ []) before c cs differ, amounts_found path (path ++ Place place ∷ []) met c all.0 (omega arith))
    (draws_read path (place + 1) (met + length c.amounts) (before ++ c ∷ []) cs more all.1 (omega arith) ∙ ap Ok same)

draw_total_is : (cs : List CounterConsumption) → draw_total cs ≡ sum_by (λ c. length c.amounts) cs
draw_total_is [] = refl
draw_total_is (c ∷ cs) = omega (arith, draw_total_is cs, sum_by-cons (λ (x : CounterConsumption). length x.amounts) c cs)

pub consumes_back : (path : List Step) (d : Data) (cs : List CounterConsumption) → get (codes "consumesCounters") d ≡ list_if consumption_json cs → AreDifferent (map (λ c. c.set) cs) → AllByRecursion DrawReads cs → sum_by (λ c. length c.amounts) cs ≤ amounts_most → consumes_of path d ≡ Ok cs
consumes_back path d [] h differ all few = rw h refl
consumes_back path d (c ∷ cs) h differ all few =
    rw h (draws_read (path ++ Member (codes "consumesCounters") ∷ []) 0 0 [] (c ∷ cs) differ all (omega (arith, draw_total_is (c ∷ cs))))
