-- The full items of the walk are the allocations.
use Rattle.std.proofs.Common.{ℕ, zero, suc, ◌<◌, ◌≡◌, ◌≢◌, List, [], ◌∷◌, true, false, eqb, Some, length, map, get_or, refl, sym, ap, ◌∙◌, subst, arith}
use Rattle.std.specs.List.{slice_get, concat, count_by, All as AllAt}
use Rattle.std.proofs.lemmas.List.{length-map}
use Rattle.std.proofs.lemmas.Option.{get_or_from_slice_get, slice_get_within}
use Rattle.walk.specs.Walk.{Shape, Open}
use Rattle.walk.specs.Walk as walk
use Rattle.pool_view.specs.declared.matching.Match.{Match}
use Rattle.pool_view.specs.declared.matching.Match.TheVariants.{Yes, No, Fault}
use Rattle.api_claim.specs.declared.types.AllocationMode.{AllocationMode}
use Rattle.api_claim.specs.declared.types.AllocationMode.TheVariants.{ExactCount, All}
use Rattle.request_rules.specs.Asked.{Seat, Next, Due}
use Rattle.request_rules.specs.Input.{SearchInput}
use Rattle.request_rules.specs.Lists.{each_after, Each, EachBoth}
use Rattle.request_rules.specs.Asked.{Asked, Slot, asked, is_yes, match_at, matching, repeated, seats, seats_by, seats_counted, slots, slots_for, slots_of}
use Rattle.request_rules.specs.Rules.{each_fills, is_good, may_join, picks}
use Rattle.request_rules.specs.Problem.{all_fails, due_to, is_crowded, is_faulty, open_slots, problem_of, shape_by, shape_of, slots_by}
use Rattle.request_rules.specs.Allocation.{IsAllocation, IsExact, IsWhole, Met, Result, Tolerates, result_of, results_of, taken}
use Rattle.request_rules.proofs.Tests.{left_of, right_of, both}
use Rattle.request_rules.proofs.Places.{each_join, each_left, each_right, there, none_at, none_from}
use Rattle.request_rules.proofs.Parts.{Fit, Sized, Filled, cut, whole_length, picks_taken, filled_parts, filled_whole, as_many, fit_at, sized_from, filled_from, met_of, tolerated_of, counted_part, counted_fills, due_part, due_fills}
use Rattle.request_rules.proofs.Shapes.{open_facts, open_from, unfaulted_of, unfaulted_from, all_of, all_holds, some_is, count_picked, few_of, few_from}
use Rattle.request_rules.proofs.Tolerated.{OnlyToleratedLaw, ToleratedLaw, tolerated_from, tolerates_of}
use Rattle.request_rules.proofs.Standing.{Standing, standing_of, standing_from}

-- ---- elements of joined lists

each_part : (P : ℕ → Type 0) (ls : List (List ℕ)) → Each P (concat ls) → Each (λ l. Each P l) ls
each_part P [] h i l e = absurd (cc)
each_part P (m ∷ ls) h zero l e = let f : m ≡ l = cc in subst (λ (n : List ℕ). Each P n) f (each_left P m (concat ls) h)
each_part P (m ∷ ls) h (suc i) l e = each_part P ls (each_right P m (concat ls) h) i l e

each_whole : (P : ℕ → Type 0) (ls : List (List ℕ)) → Each (λ l. Each P l) ls → Each P (concat ls)
each_whole P [] h i x e = absurd (cc)
each_whole P (m ∷ ls) h i x e = each_join P m (concat ls) (h 0 m refl) (each_whole P ls (λ i l e. h (suc i) l e)) i x e

below_of : (n : ℕ) (l : List ℕ) → AllAt (λ x. x < n) l → Each (λ x. x < n) l
below_of n l h i x e = let f : get_or l i 0 ≡ x = get_or_from_slice_get l i x 0 e in let g = h i 0 (slice_get_within l i x e) in omega (arith, f, g)

below_from : (n : ℕ) (l : List ℕ) → Each (λ x. x < n) l → AllAt (λ x. x < n) l
below_from n l h k d j =
    let t = there l k j in
    let f : get_or l k d ≡ t.0 = get_or_from_slice_get l k t.0 d t.1 in
    let g = h k t.0 t.1 in
    omega (arith, f, g)

-- ---- one part

yes_is : (m : Match) → is_yes m ≡ true → m ≡ Yes
yes_is Yes e = refl
yes_is No e = absurd (cc)
yes_is (Fault n why) e = absurd (cc)

repeated_length : (n : ℕ) (s : Seat) → length (repeated n s) ≡ n
repeated_length zero s = refl
repeated_length (suc n) s = let e = repeated_length n s in omega (arith, e)

counted_length : (n : ℕ) → length (seats_counted n) ≡ n
counted_length zero = refl
counted_length (suc n) = let e = repeated_length n Next in omega (arith, e)

seats_at : (w : SearchInput) (a : Asked) (m : AllocationMode) → a.ask.mode ≡ m → seats w a.ask ≡ seats_by w a.ask m
unfolding seats
seats_at w a m e = ap (seats_by w a.ask) e

filled_at : (w : SearchInput) (a : Asked) (l : List ℕ) (ss : List Seat) → seats w a.ask ≡ ss → each_fills w 0 (slots_of w a) l ≡ true → each_fills w 0 (map (λ s. record { asked = a; seat = s }) ss) l ≡ true
filled_at w a l ss e f = subst (λ (z : List Seat). each_fills w 0 (map (λ s. record { asked = a; seat = s }) z) l ≡ true) e f

part_exact : (w : SearchInput) (a : Asked) (l : List ℕ) → Fit w a l → (n : ℕ) → a.ask.mode ≡ ExactCount n → IsExact n l
part_exact w a l f n m =
    let e = seats_at w a (ExactCount n) m in
    record {
      count = f.sized ∙ ap length e ∙ counted_length n;
      rising = counted_part w a n l (filled_at w a l (seats_counted n) e f.filled);
    }

part_all : (w : SearchInput) (a : Asked) (l : List ℕ) → Fit w a l → a.ask.mode ≡ All → l ≡ matching w a.ask
part_all w a l f m =
    let e = seats_at w a All m in
    due_part w a 0 (matching w a.ask) l (f.sized ∙ ap length e ∙ length-map (matching w a.ask) (λ y. Due y)) (filled_at w a l (map (λ y. Due y) (matching w a.ask)) e f.filled)

part_met : (w : SearchInput) (a : Asked) (l : List ℕ) → Fit w a l → Each (λ x. x < length w.devices) l → Each (Met w a) l
part_met w a l f below i x e = record { on_node = below i x e; matched = yes_is (match_at w a.ask x) (met_of w a 0 (seats w a.ask) l f.filled i x e) }

part_tolerated : (w : SearchInput) (a : Asked) (l : List ℕ) → ToleratedLaw → Fit w a l → Each (Tolerates w a) l
part_tolerated w a l law f i x e = tolerates_of w a x law (tolerated_of w a 0 (seats w a.ask) l f.filled i x e)

fit_by : (w : SearchInput) (a : Asked) (l : List ℕ) (m : AllocationMode) → OnlyToleratedLaw → a.ask.mode ≡ m → ((n : ℕ) → a.ask.mode ≡ ExactCount n → IsExact n l) → (a.ask.mode ≡ All → IsWhole w a l) → Each (Met w a) l → Each (Tolerates w a) l → Fit w a l
fit_by w a l (ExactCount n) law m exact whole met tolerated =
    let e = seats_at w a (ExactCount n) m in
    let f = exact n m in
    record {
      sized = f.count ∙ sym (counted_length n) ∙ ap length (sym e);
      filled = subst (λ (z : List Seat). each_fills w 0 (map (λ s. record { asked = a; seat = s }) z) l ≡ true) (sym e)
          (counted_fills w a n l f.count (λ i x g. ap is_yes (met i x g).matched) (λ i x g. tolerated_from w a x law (tolerated i x g)) f.rising);
    }
fit_by w a l All law m exact whole met tolerated =
    let e = seats_at w a All m in
    let f = whole m in
    record {
      sized = ap length f.all ∙ sym (length-map (matching w a.ask) (λ y. Due y)) ∙ ap length (sym e);
      filled = subst (λ (z : List Seat). each_fills w 0 (map (λ s. record { asked = a; seat = s }) z) l ≡ true) (ap (λ (z : List ℕ). map (λ y. Due y) z) f.all ∙ sym e)
          (due_fills w a 0 l (λ i x g. ap is_yes (met i x g).matched) (λ i x g. tolerated_from w a x law (tolerated i x g)));
    }

-- ---- allocations

slots_are : (w : SearchInput) (c : List ℕ) → slots w c ≡ slots_for w (asked w c)
unfolding slots
slots_are w c = refl

open_are : (w : SearchInput) (c : List ℕ) (n : ℕ) → shape_of w c ≡ Open n → open_slots w c ≡ slots_for w (asked w c)
unfolding open_slots slots
open_are w c n e = ap (λ (z : Shape). slots_by z (slots_for w (asked w c))) e

good_parts : (w : SearchInput) (ss : List Slot) (l : List ℕ) → is_good w ss l ≡ true → (each_fills w 0 ss l ≡ true) × (each_after (may_join w) [] (picks ss l) ≡ true)
unfolding is_good
good_parts w ss l e = (left_of (each_fills w 0 ss l) (each_after (may_join w) [] (picks ss l)) e, right_of (each_fills w 0 ss l) (each_after (may_join w) [] (picks ss l)) e)

good_from : (w : SearchInput) (ss : List Slot) (l : List ℕ) → each_fills w 0 ss l ≡ true → each_after (may_join w) [] (picks ss l) ≡ true → is_good w ss l ≡ true
unfolding is_good
good_from w ss l e f = both (each_fills w 0 ss l) (each_after (may_join w) [] (picks ss l)) e f

shape_is : (w : SearchInput) (c : List ℕ) → shape_of w c ≡ shape_by w (asked w c) (slots_for w (asked w c))
unfolding shape_of slots
shape_is w c = refl

pub meant_of : (w : SearchInput) (c l : List ℕ) → ToleratedLaw → walk.IsAllocation (problem_of w) c l → IsAllocation w c (results_of w c l)
meant_of w c l law a =
    let asks = asked w c in
    let ss = slots_for w asks in
    let are = slots_are w c in
    let open_ = open_facts w asks ss (length l) (sym (shape_is w c) ∙ a.whole) in
    let r = cut w asks l (sym open_.3) in
    let ls = r.0 in
    let sized : Sized w asks ls = r.1 in
    let joined : concat ls ≡ l = r.2 in
    let good : is_good w ss l ≡ true = ap (λ (z : List Slot). is_good w z l) (sym (open_are w c (length l) a.whole)) ∙ a.good in
    let parts = good_parts w ss l good in
    let fills : each_fills w 0 ss (concat ls) ≡ true = ap (each_fills w 0 ss) joined ∙ parts.0 in
    let same : picks ss l ≡ taken asks ls = ap (picks ss) (sym joined) ∙ picks_taken w asks ls sized in
    let stand : Standing w (taken asks ls) = standing_of w (taken asks ls) (ap (each_after (may_join w) []) (sym same) ∙ parts.1) in
    let fit : EachBoth (Fit w) asks ls = fit_at w asks ls sized (filled_parts w asks ls sized fills) in
    let below : Each (λ m. Each (λ x. x < length w.devices) m) ls = each_part (λ x. x < length w.devices) ls (subst (λ (z : List ℕ). Each (λ x. x < length w.devices) z) (sym joined) (below_of (length w.devices) l a.known)) in
    let order : results_of w c l ≡ map (result_of w) (taken asks ls) = ap (λ (z : List Slot). map (result_of w) (picks z l)) are ∙ ap (map (result_of w)) same in
    record {
      choice_is = a.choice;
      parts = ls;
      parts_are = as_many w asks ls sized;
      in_order = order;
      exact_count = λ i b m e f. part_exact w b m (fit i b m e f);
      all_devices = λ i b m e f mode.
          let g = all_of w b (none_at (all_fails w) asks open_.1 i b e) mode in
          let h = part_all w b m (fit i b m e f) mode in
          record { all = h; some = λ none. some_is (matching w b.ask) g.1 (sym h ∙ none); unbroken = g.0 };
      devices_match = λ i b m e f. part_met w b m (fit i b m e f) (below i m f);
      unfaulted = λ i b e. unfaulted_of w b (none_at (is_faulty w) asks open_.0 i b e);
      distinct = stand.distinct;
      unheld = stand.unheld;
      exclusive = stand.exclusive;
      covered = stand.covered;
      tolerated = λ i b m e f. part_tolerated w b m law (fit i b m e f);
      constraints_hold = stand.kept;
      few = λ i h.
          let k = few_of w ss open_.2 i h in
          let n : count_by (λ r. eqb r.label.claim i) (results_of w c l) ≡ due_to ss i =
          ap (λ (z : List Slot). count_by (λ r. eqb r.label.claim i) (map (result_of w) (picks z l))) are ∙ count_picked w i ss l (sym open_.3) in
          omega (arith, k, n);
    }

pub meant_from : (w : SearchInput) (c : List ℕ) (rs : List Result) → OnlyToleratedLaw → IsAllocation w c rs → (l : List ℕ) × (rs ≡ results_of w c l) × walk.IsAllocation (problem_of w) c l
meant_from w c rs law a =
    let asks = asked w c in
    let ss = slots_for w asks in
    let ls = a.parts in
    let are = slots_are w c in
    let fit : EachBoth (Fit w) asks ls = λ i b m e f. fit_by w b m b.ask.mode law refl (a.exact_count i b m e f) (a.all_devices i b m e f) (a.devices_match i b m e f) (a.tolerated i b m e f) in
    let sized : Sized w asks ls = sized_from w asks ls a.parts_are fit in
    let filled : Filled w asks ls = filled_from w asks ls a.parts_are fit in
    let fills = filled_whole w asks ls sized filled in
    let same : picks ss (concat ls) ≡ taken asks ls = picks_taken w asks ls sized in
    let n : length (concat ls) ≡ length ss = whole_length w asks ls sized in
    let stand : Standing w (taken asks ls) = record { distinct = a.distinct; unheld = a.unheld; exclusive = a.exclusive; covered = a.covered; kept = a.constraints_hold } in
    let joins : each_after (may_join w) [] (picks ss (concat ls)) ≡ true = ap (each_after (may_join w) []) same ∙ standing_from w (taken asks ls) stand in
    let good : is_good w ss (concat ls) ≡ true = good_from w ss (concat ls) fills joins in
    let order : rs ≡ map (result_of w) (picks ss (concat ls)) = a.in_order ∙ ap (map (result_of w)) (sym same) in
    let few : is_crowded w ss ≡ false = few_from w ss (λ i h.
    let k = a.few i h in
    let m : count_by (λ r. eqb r.label.claim i) rs ≡ due_to ss i = ap (count_by (λ r. eqb r.label.claim i)) order ∙ count_picked w i ss (concat ls) n in
    omega (arith, k, m)) in
    let whole_at : (i : ℕ) (b : Asked) → slice_get asks i ≡ Some b → b.ask.mode ≡ All → (w.broken ≡ false) × (matching w b.ask ≢ []) = λ i b e mode.
    let t = there ls i (let h = slice_get_within asks i b e in let k = a.parts_are in omega (arith, h, k)) in
    let f = a.all_devices i b t.0 e t.1 mode in
    (f.unbroken, λ none. f.some (f.all ∙ none)) in
    let whole : shape_of w c ≡ Open (length (concat ls)) =
    shape_is w c ∙ open_from w asks ss (length (concat ls))
    (none_from (is_faulty w) asks (λ i b e. unfaulted_from w b (a.unfaulted i b e)))
    (none_from (all_fails w) asks (λ i b e. all_holds w b (whole_at i b e)))
    few (sym n) in (
      concat ls,
      order ∙ ap (λ (z : List Slot). map (result_of w) (picks z (concat ls))) (sym are),
      record {
        choice = a.choice_is;
        whole = whole;
        known = below_from (length w.devices) (concat ls) (each_whole (λ x. x < length w.devices) ls (λ i m f.
            let t = there asks i (let h = slice_get_within ls i m f in let k = a.parts_are in omega (arith, h, k)) in
            λ j x e. (a.devices_match i t.0 m t.1 f j x e).on_node));
        good = ap (λ (z : List Slot). is_good w z (concat ls)) (open_are w c (length (concat ls)) whole) ∙ good;
      },
    )
