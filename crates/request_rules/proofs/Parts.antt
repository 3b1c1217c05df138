-- Lists of positions, cut into the parts of the requests.
use Rattle.std.proofs.Common.{ℕ, zero, suc, ◌+◌, ◌<◌, ◌≤◌, ◌≡◌, List, [], ◌∷◌, ◌++◌, Bool, true, false, ◌&&◌, leb, None, Some, length, map, take, drop, refl, sym, ap, ◌∙◌, subst, arith, length-append, length-drop}
use Rattle.std.specs.List.{slice_get, concat}
use Rattle.std.proofs.lemmas.List.{length-map, length-take-le, take-append-drop}
use Rattle.std.proofs.lemmas.Bool.Decides.{nat_tests}
use borrow.Author.Tests.{eqb-true}
use Rattle.api_claim.specs.declared.types.AllocationMode.{AllocationMode}
use Rattle.api_claim.specs.declared.types.AllocationMode.TheVariants.{ExactCount, All}
use Rattle.request_rules.specs.Asked.{Seat, First, Next, Due}
use Rattle.request_rules.specs.Input.{SearchInput}
use Rattle.request_rules.specs.Rules.{Pick}
use Rattle.request_rules.specs.Lists.{each_after, Each, EachTwo, EachBoth}
use Rattle.request_rules.specs.Asked.{Asked, Slot, matching, meets, repeated, seats, seats_by, seats_counted, slots_for, slots_of, tolerated_at}
use Rattle.request_rules.specs.Rules.{each_fills, fills, is_good, least_after, may_join, picks, seated}
use Rattle.request_rules.specs.Allocation.{taken}
use Rattle.request_rules.specs.Prefixes.{picks-append, fills-append}
use Rattle.request_rules.proofs.Tests.{left_of, right_of, both, and_assoc, and_true, same_number}
use Rattle.request_rules.proofs.Places.{each_after-push}

-- ---- one position more

drop_get : {X : Type 0} (xs : List X) (n : ℕ) (x : X) → slice_get xs n ≡ Some x → drop n xs ≡ x ∷ drop (suc n) xs
drop_get [] n x e = absurd (cc)
drop_get (y ∷ xs) zero x e = let f : y ≡ x = cc in ap (λ z. z ∷ xs) f
drop_get (y ∷ xs) (suc n) x e = drop_get xs n x e

shuffle : (a b c d : Bool) → ((a && b) && (c && d)) ≡ ((a && c) && (b && d))
shuffle true true c d = refl
shuffle true false true d = refl
shuffle true false false d = refl
shuffle false b c d = refl

nothing_more : (ss : List Slot) (p : Pick) → p ∷ picks ss [] ≡ p ∷ []
nothing_more [] p = refl
nothing_more (s ∷ ss) p = refl

-- a good list with one position more, from the slot that it is for
pub good-push : (w : SearchInput) (ss : List Slot) (l : List ℕ) (x : ℕ) (s : Slot) → slice_get ss (length l) ≡ Some s
    → is_good w ss (l ++ x ∷ []) ≡ (is_good w ss l && (fills w s (least_after 0 l) x && may_join w (picks ss l) (record { label = s.asked.label; position = x })))
unfolding is_good
good-push w ss l x s e =
    let p : Pick = record { label = s.asked.label; position = x } in
    let d = drop_get ss (length l) s e in
    let f : each_fills w 0 ss (l ++ x ∷ []) ≡ (each_fills w 0 ss l && fills w s (least_after 0 l) x) =
    fills-append w 0 ss l (x ∷ [])
    ∙ ap (λ (r : List Slot). each_fills w 0 ss l && each_fills w (least_after 0 l) r (x ∷ [])) d
    ∙ ap (λ (t : Bool). each_fills w 0 ss l && t) (and_true (fills w s (least_after 0 l) x)) in
    let n : picks (s ∷ drop (suc (length l)) ss) (x ∷ []) ≡ p ∷ [] = nothing_more (drop (suc (length l)) ss) p in
    let g : picks ss (l ++ x ∷ []) ≡ picks ss l ++ p ∷ [] =
    picks-append ss l (x ∷ []) ∙ ap (λ (r : List Slot). picks ss l ++ picks r (x ∷ [])) d ∙ ap (λ (r : List Pick). picks ss l ++ r) n in
    ap (λ (t : Bool). t && each_after (may_join w) [] (picks ss (l ++ x ∷ []))) f
    ∙ ap (λ (r : List Pick). (each_fills w 0 ss l && fills w s (least_after 0 l) x) && each_after (may_join w) [] r) g
    ∙ ap (λ (t : Bool). (each_fills w 0 ss l && fills w s (least_after 0 l) x) && t) (each_after-push (may_join w) [] (picks ss l) p)
    ∙ shuffle (each_fills w 0 ss l) (fills w s (least_after 0 l) x) (each_after (may_join w) [] (picks ss l)) (may_join w (picks ss l) p)

drop_past : {X : Type 0} (xs : List X) (n : ℕ) → slice_get xs n ≡ None → drop n xs ≡ []
drop_past [] zero e = refl
drop_past [] (suc n) e = refl
drop_past (y ∷ xs) zero e = absurd (cc)
drop_past (y ∷ xs) (suc n) e = drop_past xs n e

both_false : (a b c : Bool) → b ≡ false → ((a && b) && c) ≡ false
both_false true b c e = ap (λ (t : Bool). t && c) e
both_false false b c e = refl

-- no position is left if no slot is
pub good-past : (w : SearchInput) (ss : List Slot) (l : List ℕ) (x : ℕ) → slice_get ss (length l) ≡ None → is_good w ss (l ++ x ∷ []) ≡ false
unfolding is_good
good-past w ss l x e =
    ap (λ (t : Bool). t && each_after (may_join w) [] (picks ss (l ++ x ∷ []))) (fills-append w 0 ss l (x ∷ []))
    ∙ both_false (each_fills w 0 ss l) (each_fills w (least_after 0 l) (drop (length l) ss) (x ∷ [])) (each_after (may_join w) [] (picks ss (l ++ x ∷ []))) (ap (λ (r : List Slot). each_fills w (least_after 0 l) r (x ∷ [])) (drop_past ss (length l) e))

-- ---- parts

-- a part has a position for each slot of its request, each of which fills its slot
pub record Fit (w : SearchInput) (a : Asked) (l : List ℕ) : Type 0 where
  pub sized : length l ≡ length (seats w a.ask)
  pub filled : each_fills w 0 (slots_of w a) l ≡ true

abbrev pub Sized : SearchInput → List Asked → List (List ℕ) → Type 0
Sized w [] [] = Unit {0}
Sized w [] (l ∷ ls) = ⊥
Sized w (a ∷ asks) [] = ⊥
Sized w (a ∷ asks) (l ∷ ls) = (length l ≡ length (seats w a.ask)) × Sized w asks ls

abbrev pub Filled : SearchInput → List Asked → List (List ℕ) → Type 0
Filled w [] [] = Unit {0}
Filled w [] (l ∷ ls) = ⊥
Filled w (a ∷ asks) [] = ⊥
Filled w (a ∷ asks) (l ∷ ls) = (each_fills w 0 (slots_of w a) l ≡ true) × Filled w asks ls

slots_length : (w : SearchInput) (a : Asked) → length (slots_of w a) ≡ length (seats w a.ask)
slots_length w a = length-map (seats w a.ask) (λ s. record { asked = a; seat = s })

more_slots : (w : SearchInput) (a : Asked) (asks : List Asked) → length (slots_for w (a ∷ asks)) ≡ length (seats w a.ask) + length (slots_for w asks)
more_slots w a asks = let e = slots_length w a in let f = length-append (slots_of w a) (slots_for w asks) in omega (arith, e, f)

pub cut : (w : SearchInput) (asks : List Asked) (l : List ℕ) → length l ≡ length (slots_for w asks) → (ls : List (List ℕ)) × Sized w asks ls × (concat ls ≡ l)
cut w [] [] h = ([], tt, refl)
cut w [] (x ∷ l) h = absurd (omega arith)
cut w (a ∷ asks) l h =
    let k = length (seats w a.ask) in
    let n = more_slots w a asks in
    let r = cut w asks (drop k l) (omega (arith, n, h, length-drop k l)) in
    (take k l ∷ r.0, (length-take-le k l (omega (arith, n, h)), r.1), ap (λ (m : List ℕ). take k l ++ m) r.2 ∙ take-append-drop k l)

pub whole_length : (w : SearchInput) (asks : List Asked) (ls : List (List ℕ)) → Sized w asks ls → length (concat ls) ≡ length (slots_for w asks)
whole_length w [] [] z = refl
whole_length w [] (l ∷ ls) z = absurd z
whole_length w (a ∷ asks) [] z = absurd z
whole_length w (a ∷ asks) (l ∷ ls) z =
    let r = whole_length w asks ls z.1 in
    let e = length-append l (concat ls) in
    let f = more_slots w a asks in
    let g = z.0 in
    omega (arith, r, e, f, g)

picks_joined : (ss ts : List Slot) (l m : List ℕ) → length l ≡ length ss → picks (ss ++ ts) (l ++ m) ≡ picks ss l ++ picks ts m
picks_joined [] ts [] m h = refl
picks_joined [] ts (x ∷ l) m h = absurd (omega arith)
picks_joined (s ∷ ss) ts [] m h = absurd (omega arith)
picks_joined (s ∷ ss) ts (x ∷ l) m h = ap (λ (ps : List Pick). record { label = s.asked.label; position = x } ∷ ps) (picks_joined ss ts l m (omega arith))

fills_joined : (w : SearchInput) (least : ℕ) (ss ts : List Slot) (l m : List ℕ) → length l ≡ length ss → each_fills w least (ss ++ ts) (l ++ m) ≡ (each_fills w least ss l && each_fills w (least_after least l) ts m)
fills_joined w least [] ts [] m h = refl
fills_joined w least [] ts (x ∷ l) m h = absurd (omega arith)
fills_joined w least (s ∷ ss) ts [] m h = absurd (omega arith)
fills_joined w least (s ∷ ss) ts (x ∷ l) m h =
    ap (λ (t : Bool). fills w s least x && t) (fills_joined w (x + 1) ss ts l m (omega arith))
    ∙ and_assoc (fills w s least x) (each_fills w (x + 1) ss l) (each_fills w (least_after (x + 1) l) ts m)

picks_seated : (a : Asked) (ss : List Seat) (l : List ℕ) → length l ≡ length ss → picks (map (λ s. record { asked = a; seat = s }) ss) l ≡ map (λ x. record { label = a.label; position = x }) l
picks_seated a [] [] h = refl
picks_seated a [] (x ∷ l) h = absurd (omega arith)
picks_seated a (s ∷ ss) [] h = absurd (omega arith)
picks_seated a (s ∷ ss) (x ∷ l) h = ap (λ (ps : List Pick). record { label = a.label; position = x } ∷ ps) (picks_seated a ss l (omega arith))

pub picks_taken : (w : SearchInput) (asks : List Asked) (ls : List (List ℕ)) → Sized w asks ls → picks (slots_for w asks) (concat ls) ≡ taken asks ls
picks_taken w [] [] z = refl
picks_taken w [] (l ∷ ls) z = absurd z
picks_taken w (a ∷ asks) [] z = absurd z
picks_taken w (a ∷ asks) (l ∷ ls) z =
    picks_joined (slots_of w a) (slots_for w asks) l (concat ls) (z.0 ∙ sym (slots_length w a))
    ∙ ap (λ (ps : List Pick). ps ++ picks (slots_for w asks) (concat ls)) (picks_seated a (seats w a.ask) l z.0)
    ∙ ap (λ (ps : List Pick). map (λ x. record { label = a.label; position = x }) l ++ ps) (picks_taken w asks ls z.1)

-- the first slot of a request doesn't depend on the position before it
anew_due : (w : SearchInput) (least : ℕ) (a : Asked) (ys : List ℕ) (ts : List Slot) (l : List ℕ) → ((m : ℕ) (n : ℕ) → each_fills w m ts l ≡ each_fills w n ts l)
    → each_fills w least (map (λ s. record { asked = a; seat = s }) (map (λ y. Due y) ys) ++ ts) l ≡ each_fills w 0 (map (λ s. record { asked = a; seat = s }) (map (λ y. Due y) ys) ++ ts) l
anew_due w least a [] ts l h = h least 0
anew_due w least a (y ∷ ys) ts [] h = refl
anew_due w least a (y ∷ ys) ts (x ∷ l) h = refl

anew_by : (w : SearchInput) (least : ℕ) (a : Asked) (mode : AllocationMode) (ts : List Slot) (l : List ℕ) → ((m : ℕ) (n : ℕ) → each_fills w m ts l ≡ each_fills w n ts l)
    → each_fills w least (map (λ s. record { asked = a; seat = s }) (seats_by w a.ask mode) ++ ts) l ≡ each_fills w 0 (map (λ s. record { asked = a; seat = s }) (seats_by w a.ask mode) ++ ts) l
anew_by w least a (ExactCount zero) ts l h = h least 0
anew_by w least a (ExactCount (suc n)) ts [] h = refl
anew_by w least a (ExactCount (suc n)) ts (x ∷ l) h = refl
anew_by w least a All ts l h = anew_due w least a (matching w a.ask) ts l h

pub fills_anew : (w : SearchInput) (asks : List Asked) (l : List ℕ) (least : ℕ) → each_fills w least (slots_for w asks) l ≡ each_fills w 0 (slots_for w asks) l
unfolding seats
fills_anew w [] [] least = refl
fills_anew w [] (x ∷ l) least = refl
fills_anew w (a ∷ asks) l least = anew_by w least a a.ask.mode (slots_for w asks) l (λ m n. fills_anew w asks l m ∙ sym (fills_anew w asks l n))

fills_more : (w : SearchInput) (a : Asked) (asks : List Asked) (l m : List ℕ) → length l ≡ length (seats w a.ask)
    → each_fills w 0 (slots_for w (a ∷ asks)) (l ++ m) ≡ (each_fills w 0 (slots_of w a) l && each_fills w 0 (slots_for w asks) m)
fills_more w a asks l m h =
    fills_joined w 0 (slots_of w a) (slots_for w asks) l m (h ∙ sym (slots_length w a))
    ∙ ap (λ (t : Bool). each_fills w 0 (slots_of w a) l && t) (fills_anew w asks m (least_after 0 l))

pub filled_parts : (w : SearchInput) (asks : List Asked) (ls : List (List ℕ)) → Sized w asks ls → each_fills w 0 (slots_for w asks) (concat ls) ≡ true → Filled w asks ls
filled_parts w [] [] z e = tt
filled_parts w [] (l ∷ ls) z e = z
filled_parts w (a ∷ asks) [] z e = z
filled_parts w (a ∷ asks) (l ∷ ls) z e =
    let f = sym (fills_more w a asks l (concat ls) z.0) ∙ e in
    (left_of (each_fills w 0 (slots_of w a) l) (each_fills w 0 (slots_for w asks) (concat ls)) f, filled_parts w asks ls z.1 (right_of (each_fills w 0 (slots_of w a) l) (each_fills w 0 (slots_for w asks) (concat ls)) f))

pub filled_whole : (w : SearchInput) (asks : List Asked) (ls : List (List ℕ)) → Sized w asks ls → Filled w asks ls → each_fills w 0 (slots_for w asks) (concat ls) ≡ true
filled_whole w [] [] z f = refl
filled_whole w [] (l ∷ ls) z f = absurd z
filled_whole w (a ∷ asks) [] z f = absurd z
filled_whole w (a ∷ asks) (l ∷ ls) z f =
    fills_more w a asks l (concat ls) z.0
    ∙ both (each_fills w 0 (slots_of w a) l) (each_fills w 0 (slots_for w asks) (concat ls)) f.0 (filled_whole w asks ls z.1 f.1)

pub as_many : (w : SearchInput) (asks : List Asked) (ls : List (List ℕ)) → Sized w asks ls → length ls ≡ length asks
as_many w [] [] z = refl
as_many w [] (l ∷ ls) z = absurd z
as_many w (a ∷ asks) [] z = absurd z
as_many w (a ∷ asks) (l ∷ ls) z = let r = as_many w asks ls z.1 in omega (arith, r)

pub fit_at : (w : SearchInput) (asks : List Asked) (ls : List (List ℕ)) → Sized w asks ls → Filled w asks ls → EachBoth (Fit w) asks ls
fit_at w [] [] z f i a l e g = absurd (cc)
fit_at w [] (m ∷ ls) z f i a l e g = absurd z
fit_at w (b ∷ asks) [] z f i a l e g = absurd z
fit_at w (b ∷ asks) (m ∷ ls) z f zero a l e g =
    let h : Fit w b m = record { sized = z.0; filled = f.0 } in
    let p : b ≡ a = cc in
    let q : m ≡ l = cc in
    subst (λ (n : List ℕ). Fit w a n) q (subst (λ (d : Asked). Fit w d m) p h)
fit_at w (b ∷ asks) (m ∷ ls) z f (suc i) a l e g = fit_at w asks ls z.1 f.1 i a l e g

pub sized_from : (w : SearchInput) (asks : List Asked) (ls : List (List ℕ)) → length ls ≡ length asks → EachBoth (Fit w) asks ls → Sized w asks ls
sized_from w [] [] n h = tt
sized_from w [] (l ∷ ls) n h = absurd (omega arith)
sized_from w (a ∷ asks) [] n h = absurd (omega arith)
sized_from w (a ∷ asks) (l ∷ ls) n h = ((h 0 a l refl refl).sized, sized_from w asks ls (omega arith) (λ i b m e f. h (suc i) b m e f))

pub filled_from : (w : SearchInput) (asks : List Asked) (ls : List (List ℕ)) → length ls ≡ length asks → EachBoth (Fit w) asks ls → Filled w asks ls
filled_from w [] [] n h = tt
filled_from w [] (l ∷ ls) n h = absurd (omega arith)
filled_from w (a ∷ asks) [] n h = absurd (omega arith)
filled_from w (a ∷ asks) (l ∷ ls) n h = ((h 0 a l refl refl).filled, filled_from w asks ls (omega arith) (λ i b m e f. h (suc i) b m e f))

-- ---- one part

pub met_of : (w : SearchInput) (a : Asked) (least : ℕ) (ss : List Seat) (l : List ℕ) → each_fills w least (map (λ s. record { asked = a; seat = s }) ss) l ≡ true → Each (λ x. meets w a.ask x ≡ true) l
met_of w a least ss [] e i x h = absurd (cc)
met_of w a least [] (y ∷ l) e i x h = absurd (cc)
met_of w a least (s ∷ ss) (y ∷ l) e zero x h =
    let here : fills w (record { asked = a; seat = s }) least y ≡ true = left_of (fills w (record { asked = a; seat = s }) least y) (each_fills w (y + 1) (map (λ s. record { asked = a; seat = s }) ss) l) e in
    let f : y ≡ x = cc in
    ap (meets w a.ask) (sym f) ∙ left_of (meets w a.ask y) (tolerated_at w a.ask y && seated s least y) here
met_of w a least (s ∷ ss) (y ∷ l) e (suc i) x h =
    met_of w a (y + 1) ss l (right_of (fills w (record { asked = a; seat = s }) least y) (each_fills w (y + 1) (map (λ s. record { asked = a; seat = s }) ss) l) e) i x h

pub tolerated_of : (w : SearchInput) (a : Asked) (least : ℕ) (ss : List Seat) (l : List ℕ) → each_fills w least (map (λ s. record { asked = a; seat = s }) ss) l ≡ true → Each (λ x. tolerated_at w a.ask x ≡ true) l
tolerated_of w a least ss [] e i x h = absurd (cc)
tolerated_of w a least [] (y ∷ l) e i x h = absurd (cc)
tolerated_of w a least (s ∷ ss) (y ∷ l) e zero x h =
    let here : fills w (record { asked = a; seat = s }) least y ≡ true = left_of (fills w (record { asked = a; seat = s }) least y) (each_fills w (y + 1) (map (λ s. record { asked = a; seat = s }) ss) l) e in
    let f : y ≡ x = cc in
    ap (tolerated_at w a.ask) (sym f) ∙ left_of (tolerated_at w a.ask y) (seated s least y) (right_of (meets w a.ask y) (tolerated_at w a.ask y && seated s least y) here)
tolerated_of w a least (s ∷ ss) (y ∷ l) e (suc i) x h =
    tolerated_of w a (y + 1) ss l (right_of (fills w (record { asked = a; seat = s }) least y) (each_fills w (y + 1) (map (λ s. record { asked = a; seat = s }) ss) l) e) i x h

-- a position that fills a slot of the request, and back
seat_of : (w : SearchInput) (a : Asked) (s : Seat) (least x : ℕ) → fills w (record { asked = a; seat = s }) least x ≡ true → seated s least x ≡ true
seat_of w a s least x e = right_of (tolerated_at w a.ask x) (seated s least x) (right_of (meets w a.ask x) (tolerated_at w a.ask x && seated s least x) e)

fills_from : (w : SearchInput) (a : Asked) (s : Seat) (least x : ℕ) → meets w a.ask x ≡ true → tolerated_at w a.ask x ≡ true → seated s least x ≡ true → fills w (record { asked = a; seat = s }) least x ≡ true
fills_from w a s least x m t e = both (meets w a.ask x) (tolerated_at w a.ask x && seated s least x) m (both (tolerated_at w a.ask x) (seated s least x) t e)

above_by : (least y : ℕ) (l : List ℕ) (i x : ℕ) → slice_get (y ∷ l) i ≡ Some x → least ≤ y → Each (λ x. y + 1 ≤ x) l → least ≤ x
above_by least y l zero x h k f = let e : y ≡ x = cc in omega arith
above_by least y l (suc i) x h k f = let g = f i x h in omega (arith, g, k)

-- a position below all others, which rise
rises_by : (z : ℕ) (l : List ℕ) → Each (λ x. z + 1 ≤ x) l → EachTwo (λ x y. x < y) l → EachTwo (λ x y. x < y) (z ∷ l)
rises_by z l f r i zero x y k g h = absurd (omega arith)
rises_by z l f r zero (suc j) x y k g h = let e : z ≡ x = cc in let d = f j y h in omega (arith, e, d)
rises_by z l f r (suc i) (suc j) x y k g h = r i j x y (omega arith) g h

above : (w : SearchInput) (a : Asked) (least n : ℕ) (l : List ℕ) → each_fills w least (map (λ s. record { asked = a; seat = s }) (repeated n Next)) l ≡ true → Each (λ x. least ≤ x) l
above w a least n [] e i x h = absurd (cc)
above w a least zero (y ∷ l) e i x h = absurd (cc)
above w a least (suc n) (y ∷ l) e i x h =
    let here = left_of (fills w (record { asked = a; seat = Next }) least y) (each_fills w (y + 1) (map (λ s. record { asked = a; seat = s }) (repeated n Next)) l) e in
    let low : leb least y ≡ true = seat_of w a Next least y here in
    let k : least ≤ y = grind (arith, nat_tests, low) in
    above_by least y l i x h k (above w a (y + 1) n l (right_of (fills w (record { asked = a; seat = Next }) least y) (each_fills w (y + 1) (map (λ s. record { asked = a; seat = s }) (repeated n Next)) l) e))

rises : (w : SearchInput) (a : Asked) (least n : ℕ) (l : List ℕ) → each_fills w least (map (λ s. record { asked = a; seat = s }) (repeated n Next)) l ≡ true → EachTwo (λ x y. x < y) l
rises w a least n [] e i j x y k g h = absurd (cc)
rises w a least zero (z ∷ l) e i j x y k g h = absurd (cc)
rises w a least (suc n) (z ∷ l) e i j x y k g h =
    let rest = right_of (fills w (record { asked = a; seat = Next }) least z) (each_fills w (z + 1) (map (λ s. record { asked = a; seat = s }) (repeated n Next)) l) e in
    rises_by z l (above w a (z + 1) n l rest) (rises w a (z + 1) n l rest) i j x y k g h

pub counted_part : (w : SearchInput) (a : Asked) (n : ℕ) (l : List ℕ) → each_fills w 0 (map (λ s. record { asked = a; seat = s }) (seats_counted n)) l ≡ true → EachTwo (λ x y. x < y) l
counted_part w a n [] e i j x y k g h = absurd (cc)
counted_part w a zero (z ∷ l) e i j x y k g h = absurd (cc)
counted_part w a (suc n) (z ∷ l) e i j x y k g h =
    let rest = right_of (fills w (record { asked = a; seat = First }) 0 z) (each_fills w (z + 1) (map (λ s. record { asked = a; seat = s }) (repeated n Next)) l) e in
    rises_by z l (above w a (z + 1) n l rest) (rises w a (z + 1) n l rest) i j x y k g h

fills_next : (w : SearchInput) (a : Asked) (least n : ℕ) (l : List ℕ) → length l ≡ n → Each (λ x. meets w a.ask x ≡ true) l → Each (λ x. tolerated_at w a.ask x ≡ true) l → Each (λ x. least ≤ x) l → EachTwo (λ x y. x < y) l
    → each_fills w least (map (λ s. record { asked = a; seat = s }) (repeated n Next)) l ≡ true
fills_next w a least n [] e m o f r = refl
fills_next w a least zero (y ∷ l) e m o f r = absurd (omega arith)
fills_next w a least (suc n) (y ∷ l) e m o f r =
    let low = f 0 y refl in
    let t : leb least y ≡ true = grind (arith, nat_tests, low) in
    both (fills w (record { asked = a; seat = Next }) least y) (each_fills w (y + 1) (map (λ s. record { asked = a; seat = s }) (repeated n Next)) l)
    (fills_from w a Next least y (m 0 y refl) (o 0 y refl) t)
    (fills_next w a (y + 1) n l (omega arith) (λ i x h. m (suc i) x h) (λ i x h. o (suc i) x h) (λ i x h. let d = r 0 (suc i) y x (omega arith) refl h in omega (arith, d)) (λ i j x z k g h. r (suc i) (suc j) x z (omega arith) g h))

pub counted_fills : (w : SearchInput) (a : Asked) (n : ℕ) (l : List ℕ) → length l ≡ n → Each (λ x. meets w a.ask x ≡ true) l → Each (λ x. tolerated_at w a.ask x ≡ true) l → EachTwo (λ x y. x < y) l
    → each_fills w 0 (map (λ s. record { asked = a; seat = s }) (seats_counted n)) l ≡ true
counted_fills w a n [] e m o r = refl
counted_fills w a zero (y ∷ l) e m o r = absurd (omega arith)
counted_fills w a (suc n) (y ∷ l) e m o r =
    both (fills w (record { asked = a; seat = First }) 0 y) (each_fills w (y + 1) (map (λ s. record { asked = a; seat = s }) (repeated n Next)) l)
    (fills_from w a First 0 y (m 0 y refl) (o 0 y refl) refl)
    (fills_next w a (y + 1) n l (omega arith) (λ i x h. m (suc i) x h) (λ i x h. o (suc i) x h) (λ i x h. let d = r 0 (suc i) y x (omega arith) refl h in omega (arith, d)) (λ i j x z k g h. r (suc i) (suc j) x z (omega arith) g h))

pub due_part : (w : SearchInput) (a : Asked) (least : ℕ) (ys l : List ℕ) → length l ≡ length ys → each_fills w least (map (λ s. record { asked = a; seat = s }) (map (λ y. Due y) ys)) l ≡ true → l ≡ ys
due_part w a least [] [] n e = refl
due_part w a least [] (x ∷ l) n e = absurd (omega arith)
due_part w a least (y ∷ ys) [] n e = absurd (omega arith)
due_part w a least (y ∷ ys) (x ∷ l) n e =
    let here = left_of (fills w (record { asked = a; seat = Due y }) least x) (each_fills w (x + 1) (map (λ s. record { asked = a; seat = s }) (map (λ y. Due y) ys)) l) e in
    let f : y ≡ x = eqb-true y x (seat_of w a (Due y) least x here) in
    let g : l ≡ ys = due_part w a (x + 1) ys l (omega arith) (right_of (fills w (record { asked = a; seat = Due y }) least x) (each_fills w (x + 1) (map (λ s. record { asked = a; seat = s }) (map (λ y. Due y) ys)) l) e) in
    ap (λ z. z ∷ l) (sym f) ∙ ap (λ m. y ∷ m) g

pub due_fills : (w : SearchInput) (a : Asked) (least : ℕ) (l : List ℕ) → Each (λ x. meets w a.ask x ≡ true) l → Each (λ x. tolerated_at w a.ask x ≡ true) l → each_fills w least (map (λ s. record { asked = a; seat = s }) (map (λ y. Due y) l)) l ≡ true
due_fills w a least [] m o = refl
due_fills w a least (x ∷ l) m o =
    both (fills w (record { asked = a; seat = Due x }) least x) (each_fills w (x + 1) (map (λ s. record { asked = a; seat = s }) (map (λ y. Due y) l)) l)
    (fills_from w a (Due x) least x (m 0 x refl) (o 0 x refl) (same_number x x refl))
    (due_fills w a (x + 1) l (λ i y h. m (suc i) y h) (λ i y h. o (suc i) y h))
