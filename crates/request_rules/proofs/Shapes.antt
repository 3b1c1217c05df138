-- Shapes, and what holds of a choice that is open.
use Rattle.std.proofs.Common.{ℕ, zero, suc, ◌+◌, ◌<◌, ◌≤◌, ◌≡◌, ◌≢◌, List, [], ◌∷◌, Bool, true, false, ◌&&◌, ◌||◌, cond, eqb, ltb, Some, length, map, refl, sym, ap, ◌∙◌, ⊎_elim, arith}
use Rattle.std.specs.List.{slice_get, count_by, list_any}
use Rattle.std.proofs.lemmas.List.Sums.{sum_by-cons}
use Rattle.std.proofs.lemmas.Bool.Decides.{nat_tests}
use Rattle.walk.specs.Lists.{numbers}
use Rattle.walk.specs.Walk.{Faulty, Hopeless, Open}
use Rattle.pool_view.specs.declared.matching.Match.{Match}
use Rattle.pool_view.specs.declared.matching.Match.TheVariants.{Yes, No, Fault}
use Rattle.api_claim.specs.declared.types.AllocationMode.{AllocationMode}
use Rattle.api_claim.specs.declared.types.AllocationMode.TheVariants.{ExactCount, All}
use Rattle.request_rules.specs.Input.{SearchInput}
use Rattle.pool_view.specs.declared.verdict.Cause.{Cause}
use Rattle.request_rules.specs.Asked.{Asked, Slot, is_fault, matching}
use Rattle.request_rules.specs.Faults.{GivesNone}
use Rattle.request_rules.specs.Rules.{picks}
use Rattle.request_rules.specs.Problem.{all_fails, due_to, is_all, is_crowded, is_faulty, is_none, most_results, shape_by}
use Rattle.request_rules.specs.Allocation.{result_of}
use Rattle.request_rules.proofs.Tests.{left_of, right_of, either, neither, false_from}
use Rattle.request_rules.proofs.Places.{none_at, none_from, get-from_contains, Contains-from_get}

shape_if : (a b c : Bool) (n m : ℕ) → cond a Faulty (cond b Hopeless (cond c Hopeless (Open n))) ≡ Open m → (a ≡ false) × (b ≡ false) × (c ≡ false) × (n ≡ m)
shape_if true b c n m e = absurd (cc)
shape_if false true c n m e = absurd (cc)
shape_if false false true n m e = absurd (cc)
shape_if false false false n m e = (refl, refl, refl, cc)

pub open_facts : (w : SearchInput) (asks : List Asked) (ss : List Slot) (m : ℕ) → shape_by w asks ss ≡ Open m
    → (list_any (is_faulty w) asks ≡ false) × (list_any (all_fails w) asks ≡ false) × (is_crowded w ss ≡ false) × (length ss ≡ m)
open_facts w asks ss m e = shape_if (list_any (is_faulty w) asks) (list_any (all_fails w) asks) (is_crowded w ss) (length ss) m e

pub open_from : (w : SearchInput) (asks : List Asked) (ss : List Slot) (m : ℕ) → list_any (is_faulty w) asks ≡ false → list_any (all_fails w) asks ≡ false → is_crowded w ss ≡ false → length ss ≡ m
    → shape_by w asks ss ≡ Open m
open_from w asks ss m a b c e =
    ap (λ (t : Bool). cond t Faulty (cond (list_any (all_fails w) asks) Hopeless (cond (is_crowded w ss) Hopeless (Open (length ss))))) a
    ∙ ap (λ (t : Bool). cond t Hopeless (cond (is_crowded w ss) Hopeless (Open (length ss)))) b
    ∙ ap (λ (t : Bool). cond t Hopeless (Open (length ss))) c
    ∙ ap (λ (n : ℕ). Open n) e

-- ---- evaluation errors

no_fault : (m : Match) → is_fault m ≡ false → (n : ℕ) (why : Cause) → m ≢ Fault n why
no_fault Yes e n why f = absurd (cc)
no_fault No e n why f = absurd (cc)
no_fault (Fault k c) e n why f = absurd (cc)

fault_is : (m : Match) → is_fault m ≡ true → (n : ℕ) × (why : Cause) × (m ≡ Fault n why)
fault_is Yes e = absurd (cc)
fault_is No e = absurd (cc)
fault_is (Fault n why) e = (n, why, refl)

pub unfaulted_of : (w : SearchInput) (a : Asked) → is_faulty w a ≡ false → GivesNone w a w.devices
unfaulted_of w a e = record {
  none = λ o n why h. no_fault (w.matched a.ask o) (none_at (λ o. is_fault (w.matched a.ask o)) w.devices e h.0 o (get-from_contains w.devices o h)) n why;
}

pub unfaulted_from : (w : SearchInput) (a : Asked) → GivesNone w a w.devices → is_faulty w a ≡ false
unfaulted_from w a f =
    none_from (λ o. is_fault (w.matched a.ask o)) w.devices
    (λ i o e. false_from (is_fault (w.matched a.ask o)) (λ t.
    let g = fault_is (w.matched a.ask o) t in
    f.none o g.0 g.1 (Contains-from_get w.devices i o e) g.2))

-- ---- requests for all devices

all_is : (m : AllocationMode) → is_all m ≡ true → m ≡ All
all_is (ExactCount n) e = absurd (cc)
all_is All e = refl

fails_by : (a b c : Bool) → (a && (b || c)) ≡ false → a ≡ true → (b ≡ false) × (c ≡ false)
fails_by true b c e f = neither b c e
fails_by false b c e f = absurd (cc)

pub none_is : (l : List ℕ) → is_none l ≡ true → l ≡ []
none_is [] e = refl
none_is (x ∷ l) e = absurd (cc)

pub some_is : (l : List ℕ) → is_none l ≡ false → l ≢ []
some_is [] e f = absurd (cc)
some_is (x ∷ l) e f = absurd (cc)

pub all_of : (w : SearchInput) (a : Asked) → all_fails w a ≡ false → a.ask.mode ≡ All → (w.broken ≡ false) × (is_none (matching w a.ask) ≡ false)
all_of w a e m = fails_by (is_all a.ask.mode) w.broken (is_none (matching w a.ask)) e (ap is_all m)

pub all_holds : (w : SearchInput) (a : Asked) → (a.ask.mode ≡ All → (w.broken ≡ false) × (matching w a.ask ≢ [])) → all_fails w a ≡ false
all_holds w a h =
    false_from (all_fails w a) (λ t.
    let m = all_is a.ask.mode (left_of (is_all a.ask.mode) (w.broken || is_none (matching w a.ask)) t) in
    let facts = h m in
    ⊎_elim
    (λ (b : w.broken ≡ true). let f = facts.0 in let g : true ≡ false = sym b ∙ f in absurd (cc))
    (λ (n : is_none (matching w a.ask) ≡ true). facts.1 (none_is (matching w a.ask) n))
    (either w.broken (is_none (matching w a.ask)) (right_of (is_all a.ask.mode) (w.broken || is_none (matching w a.ask)) t)))

-- ---- the results of a claim

numbers_at : (first n i : ℕ) → i < n → slice_get (numbers first n) i ≡ Some (first + i)
numbers_at first zero i h = absurd (omega arith)
numbers_at first (suc n) zero h = ap (λ z. Some z) (omega arith)
numbers_at first (suc n) (suc i) h = numbers_at (first + 1) n i (omega arith) ∙ ap (λ z. Some z) (omega arith)

numbers_in : (first n i x : ℕ) → slice_get (numbers first n) i ≡ Some x → (x ≡ first + i) × (i < n)
numbers_in first zero i x e = absurd (cc)
numbers_in first (suc n) zero x e = let f : first ≡ x = cc in (omega arith, omega arith)
numbers_in first (suc n) (suc i) x e = let r = numbers_in (first + 1) n i x e in (omega (arith, r.0), omega (arith, r.1))

pub count_picked : (w : SearchInput) (i : ℕ) (ss : List Slot) (l : List ℕ) → length l ≡ length ss → count_by (λ r. eqb r.label.claim i) (map (result_of w) (picks ss l)) ≡ due_to ss i
count_picked w i [] [] n = refl
count_picked w i [] (x ∷ l) n = absurd (omega arith)
count_picked w i (s ∷ ss) [] n = absurd (omega arith)
count_picked w i (s ∷ ss) (x ∷ l) n =
    let r = count_picked w i ss l (omega arith) in
    sum_by-cons (λ r. cond (eqb r.label.claim i) 1 0) (result_of w (record { label = s.asked.label; position = x })) (map (result_of w) (picks ss l))
    ∙ ap (λ (k : ℕ). cond (eqb s.asked.label.claim i) 1 0 + k) r
    ∙ sym (sum_by-cons (λ (z : Slot). cond (eqb z.asked.label.claim i) 1 0) s ss)

pub few_of : (w : SearchInput) (ss : List Slot) → is_crowded w ss ≡ false → (i : ℕ) → i < length w.claims → due_to ss i ≤ most_results
few_of w ss e i h =
    let f : ltb most_results (due_to ss i) ≡ false = none_at (λ i. ltb most_results (due_to ss i)) (numbers 0 (length w.claims)) e i i (numbers_at 0 (length w.claims) i h ∙ ap (λ z. Some z) (omega arith)) in
    grind (arith, nat_tests, f)

pub few_from : (w : SearchInput) (ss : List Slot) → ((i : ℕ) → i < length w.claims → due_to ss i ≤ most_results) → is_crowded w ss ≡ false
few_from w ss h =
    none_from (λ i. ltb most_results (due_to ss i)) (numbers 0 (length w.claims))
    (λ j i e.
    let r = numbers_in 0 (length w.claims) j i e in
    let k = h i (omega (arith, r.0, r.1)) in
    grind (arith, nat_tests, k))
