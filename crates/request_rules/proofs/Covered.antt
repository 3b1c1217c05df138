-- The counters are covered if each device found them covered.
use Rattle.std.proofs.Common.{ℕ, suc, ◌+◌, ◌≡◌, ◌⊎◌, List, [], ◌∷◌, ◌++◌, Bool, true, false, ◌&&◌, cond, Option, Some, None, refl, sym, ap, ◌∙◌, subst, inl, inr, ⊎_elim, arith, append_assoc, append-nil}
use Rattle.std.specs.List.{list_all, slice_get}
use Rattle.std.proofs.lemmas.List.Sums.{sum_by-append, sum_by-cons}
use Rattle.std.proofs.lemmas.List.Folds.{list_all-append}
use Rattle.std.proofs.lemmas.Bool.Decides.{nat_tests}
use Rattle.request_rules.specs.Draws.{CounterId, Draw}
use Rattle.request_rules.specs.Rules.{Pick}
use Rattle.request_rules.specs.Input.{SearchInput}
use Rattle.request_rules.specs.Lists.{each_after}
use Rattle.request_rules.specs.Draws.{counter_eq, drawn_at, is_within}
use Rattle.request_rules.specs.Rules.{amount, covers, draws, total, within}
use Rattle.request_rules.proofs.Equal.{same_from_counter_eq}
use Rattle.request_rules.proofs.Tests.{left_of, false_from}
use Rattle.request_rules.proofs.Places.{all_at, all_from}

-- each counter on which one of them draws has enough for all of them
abbrev pub covered : SearchInput → List Pick → Bool
covered w l = list_all (λ p. list_all (λ d. within w d.counter (total w d.counter l)) (draws w p)) l

pub total-push : (w : SearchInput) (k : CounterId) (l : List Pick) (p : Pick) → total w k (l ++ p ∷ []) ≡ total w k l + amount k (draws w p)
unfolding total
total-push w k l p = omega (arith, sum_by-append (λ q. amount k (draws w q)) l (p ∷ []))

drawn_cases : (k : CounterId) (d : Draw) (b : Bool) → counter_eq d.counter k ≡ b → (drawn_at k d ≡ 0) ⊎ (d.counter ≡ k)
drawn_cases k d true e = inr (same_from_counter_eq d.counter k e)
drawn_cases k d false e = inl (ap (λ (t : Bool). cond t d.amount 0) e)

-- a counter that isn't listed has nothing drawn from it
amount_cases : (k : CounterId) (ds : List Draw) → (amount k ds ≡ 0) ⊎ ((i : ℕ) × (d : Draw) × (slice_get ds i ≡ Some d) × (d.counter ≡ k))
amount_cases k [] = inl refl
amount_cases k (d ∷ ds) =
    ⊎_elim
    (λ (none : drawn_at k d ≡ 0). ⊎_elim
    (λ (rest : amount k ds ≡ 0). let e = sum_by-cons (drawn_at k) d ds in let f : amount k (d ∷ ds) ≡ 0 = omega arith in inl f)
    (λ (r : (i : ℕ) × (d : Draw) × (slice_get ds i ≡ Some d) × (d.counter ≡ k)). inr (suc r.0, r.1, r.2, r.3))
    (amount_cases k ds))
    (λ (here : d.counter ≡ k). inr (0, d, refl, here))
    (drawn_cases k d (counter_eq d.counter k) refl)

less_by : (o : Option ℕ) (t m : ℕ) → is_within o (t + m) ≡ true → is_within o t ≡ true
less_by None t m e = e
less_by (Some v) t m e = grind (arith, nat_tests, e)

less : (w : SearchInput) (k : CounterId) (t m : ℕ) → within w k (t + m) ≡ true → within w k t ≡ true
less w k t m e = less_by (w.value k) t m e

-- a counter that was covered remains covered, since those on which the new device draws are covered
kept : (w : SearchInput) (l : List Pick) (p : Pick) (d : Draw) → covers w l p ≡ true → within w d.counter (total w d.counter l) ≡ true
    → within w d.counter (total w d.counter (l ++ p ∷ [])) ≡ true
unfolding covers
kept w l p d e f =
    let k = d.counter in
    ap (λ (n : ℕ). within w k n) (total-push w k l p)
    ∙ ⊎_elim
    (λ (none : amount k (draws w p) ≡ 0). let g : total w k l + amount k (draws w p) ≡ total w k l = omega arith in ap (λ (n : ℕ). within w k n) g ∙ f)
    (λ (r : (i : ℕ) × (c : Draw) × (slice_get (draws w p) i ≡ Some c) × (c.counter ≡ k)).
    subst (λ (n : CounterId). within w n (total w n l + amount n (draws w p)) ≡ true) r.3
    (all_at (λ c. within w c.counter (total w c.counter l + amount c.counter (draws w p))) (draws w p) e r.0 r.1 r.2))
    (amount_cases k (draws w p))

old_kept : (w : SearchInput) (l : List Pick) (p : Pick) → covers w l p ≡ true → covered w l ≡ true → list_all (λ q. list_all (λ d. within w d.counter (total w d.counter (l ++ p ∷ []))) (draws w q)) l ≡ true
old_kept w l p e f =
    all_from (λ q. list_all (λ d. within w d.counter (total w d.counter (l ++ p ∷ []))) (draws w q)) l
    (λ i q g. all_from (λ d. within w d.counter (total w d.counter (l ++ p ∷ []))) (draws w q)
    (λ j d h. kept w l p d e
    (all_at (λ c. within w c.counter (total w c.counter l)) (draws w q)
    (all_at (λ z. list_all (λ c. within w c.counter (total w c.counter l)) (draws w z)) l f i q g) j d h)))

new_same : (w : SearchInput) (l : List Pick) (p : Pick) (ds : List Draw) → list_all (λ d. within w d.counter (total w d.counter (l ++ p ∷ []))) ds ≡ list_all (λ d. within w d.counter (total w d.counter l + amount d.counter (draws w p))) ds
new_same w l p [] = refl
new_same w l p (d ∷ ds) =
    let e : within w d.counter (total w d.counter (l ++ p ∷ [])) ≡ within w d.counter (total w d.counter l + amount d.counter (draws w p)) = ap (λ (n : ℕ). within w d.counter n) (total-push w d.counter l p) in
    let f = new_same w l p ds in
    ap (λ (b : Bool). b && list_all (λ d. within w d.counter (total w d.counter (l ++ p ∷ []))) ds) e
    ∙ ap (λ (b : Bool). within w d.counter (total w d.counter l + amount d.counter (draws w p)) && b) f

push_by : (old new c : Bool) → new ≡ c → (c ≡ true → old ≡ true) → (old && (new && true)) ≡ c
push_by true true c e f = e
push_by true false c e f = e
push_by false new true e f = let g = f refl in absurd (cc)
push_by false new false e f = refl

pub covered-push : (w : SearchInput) (l : List Pick) (p : Pick) → covered w l ≡ true → covered w (l ++ p ∷ []) ≡ covers w l p
unfolding covers
covered-push w l p e =
    list_all-append (λ q. list_all (λ d. within w d.counter (total w d.counter (l ++ p ∷ []))) (draws w q)) l (p ∷ [])
    ∙ push_by
    (list_all (λ q. list_all (λ d. within w d.counter (total w d.counter (l ++ p ∷ []))) (draws w q)) l)
    (list_all (λ d. within w d.counter (total w d.counter (l ++ p ∷ []))) (draws w p))
    (list_all (λ d. within w d.counter (total w d.counter l + amount d.counter (draws w p))) (draws w p))
    (new_same w l p (draws w p))
    (λ c. old_kept w l p c e)

covered-less : (w : SearchInput) (l : List Pick) (p : Pick) → covered w (l ++ p ∷ []) ≡ true → covered w l ≡ true
covered-less w l p e =
    let t : Pick → Bool = λ q. list_all (λ d. within w d.counter (total w d.counter (l ++ p ∷ []))) (draws w q) in
    let old = left_of (list_all t l) (list_all t (p ∷ [])) (sym (list_all-append t l (p ∷ [])) ∙ e) in
    all_from (λ q. list_all (λ d. within w d.counter (total w d.counter l)) (draws w q)) l
    (λ i q g. all_from (λ d. within w d.counter (total w d.counter l)) (draws w q)
    (λ j d h. less w d.counter (total w d.counter l) (amount d.counter (draws w p))
    (ap (λ (n : ℕ). within w d.counter n) (sym (total-push w d.counter l p))
    ∙ all_at (λ c. within w c.counter (total w c.counter (l ++ p ∷ []))) (draws w q) (all_at t l old i q g) j d h)))

covered-prefix : (w : SearchInput) (l m : List Pick) → covered w (l ++ m) ≡ true → covered w l ≡ true
covered-prefix w l [] e = ap (covered w) (sym (append-nil l)) ∙ e
covered-prefix w l (p ∷ m) e = covered-less w l p (covered-prefix w (l ++ p ∷ []) m (ap (covered w) (append_assoc l (p ∷ []) m) ∙ e))

after_by : (w : SearchInput) (before l : List Pick) (p : Pick) (b : Bool) → covers w before p ≡ b → covered w before ≡ true
    → (covered w (before ++ p ∷ []) ≡ true → each_after (covers w) (before ++ p ∷ []) l ≡ covered w ((before ++ p ∷ []) ++ l))
    → (covers w before p && each_after (covers w) (before ++ p ∷ []) l) ≡ covered w (before ++ p ∷ l)
after_by w before l p true e c ih =
    ap (λ (t : Bool). t && each_after (covers w) (before ++ p ∷ []) l) e ∙ ih (covered-push w before p c ∙ e) ∙ ap (covered w) (append_assoc before (p ∷ []) l)
after_by w before l p false e c ih =
    ap (λ (t : Bool). t && each_after (covers w) (before ++ p ∷ []) l) e
    ∙ sym (false_from (covered w (before ++ p ∷ l)) (λ h.
    let f = covered-prefix w (before ++ p ∷ []) l (ap (covered w) (append_assoc before (p ∷ []) l) ∙ h) in
    let g = covered-push w before p c in
    let bad : true ≡ false = sym f ∙ g ∙ e in
    absurd (cc)))

pub covered-after : (w : SearchInput) (before l : List Pick) → covered w before ≡ true → each_after (covers w) before l ≡ covered w (before ++ l)
covered-after w before [] c = sym c ∙ ap (covered w) (sym (append-nil before))
covered-after w before (p ∷ l) c = after_by w before l p (covers w before p) refl c (λ d. covered-after w (before ++ p ∷ []) l d)
