-- Elements by their indexes.
use Rattle.std.proofs.Common.{ℕ, zero, suc, ◌<◌, ◌≡◌, List, [], ◌∷◌, ◌++◌, Bool, true, false, ◌&&◌, ◌||◌, Some, length, map, take, refl, sym, ap, ◌∙◌, arith, append_assoc, append-nil}
use Rattle.std.specs.List.{slice_get, list_all, list_any, Contains}
use Rattle.std.proofs.lemmas.Option.{slice_get_within, get_or_from_slice_get, slice_get_read}
use Rattle.request_rules.specs.Lists.{each_after, Each}
use Rattle.request_rules.proofs.Tests.{left_of, right_of, both, and_assoc, and_true, neither}

pub there : {X : Type 0} (xs : List X) (i : ℕ) → i < length xs → (x : X) × (slice_get xs i ≡ Some x)
there [] i h = absurd (omega arith)
there (x ∷ xs) zero h = (x, refl)
there (x ∷ xs) (suc i) h = there xs i (omega arith)

pub Contains-from_get : {X : Type 0} (xs : List X) (i : ℕ) (x : X) → slice_get xs i ≡ Some x → Contains xs x
Contains-from_get xs i x e = (i, slice_get_within xs i x e, get_or_from_slice_get xs i x x e)

pub get-from_contains : {X : Type 0} (xs : List X) (x : X) → (h : Contains xs x) → slice_get xs h.0 ≡ Some x
get-from_contains xs x h = slice_get_read xs (length xs) h.0 x refl h.1 (sym h.2)

pub each_at : {X : Type 0} (test : List X → X → Bool) (before l : List X) → each_after test before l ≡ true → (i : ℕ) (x : X) → slice_get l i ≡ Some x → test (before ++ take i l) x ≡ true
each_at test before [] e i x h = absurd (cc)
each_at {X} test before (y ∷ ys) e zero x h =
    let f : y ≡ x = cc in
    ap (λ (w : List X). test w x) (append-nil before) ∙ ap (test before) (sym f) ∙ left_of (test before y) (each_after test (before ++ y ∷ []) ys) e
each_at {X} test before (y ∷ ys) e (suc i) x h =
    ap (λ (w : List X). test w x) (sym (append_assoc before (y ∷ []) (take i ys)))
    ∙ each_at test (before ++ y ∷ []) ys (right_of (test before y) (each_after test (before ++ y ∷ []) ys) e) i x h

pub each_from : {X : Type 0} (test : List X → X → Bool) (before l : List X) → ((i : ℕ) (x : X) → slice_get l i ≡ Some x → test (before ++ take i l) x ≡ true) → each_after test before l ≡ true
each_from test before [] h = refl
each_from {X} test before (y ∷ ys) h =
    both (test before y) (each_after test (before ++ y ∷ []) ys)
    (ap (λ (w : List X). test w y) (sym (append-nil before)) ∙ h 0 y refl)
    (each_from test (before ++ y ∷ []) ys (λ i x k. ap (λ (w : List X). test w x) (append_assoc before (y ∷ []) (take i ys)) ∙ h (suc i) x k))

pub each_after-push : {X : Type 0} (test : List X → X → Bool) (before l : List X) (x : X) → each_after test before (l ++ x ∷ []) ≡ (each_after test before l && test (before ++ l) x)
each_after-push {X} test before [] x = and_true (test before x) ∙ ap (λ (w : List X). test w x) (sym (append-nil before))
each_after-push {X} test before (y ∷ l) x =
    ap (λ (t : Bool). test before y && t) (each_after-push test (before ++ y ∷ []) l x)
    ∙ ap (λ (w : List X). test before y && (each_after test (before ++ y ∷ []) l && test w x)) (append_assoc before (y ∷ []) l)
    ∙ and_assoc (test before y) (each_after test (before ++ y ∷ []) l) (test (before ++ y ∷ l) x)

pub all_at : {X : Type 0} (p : X → Bool) (l : List X) → list_all p l ≡ true → (i : ℕ) (x : X) → slice_get l i ≡ Some x → p x ≡ true
all_at p [] e i x h = absurd (cc)
all_at p (y ∷ l) e zero x h = let f : y ≡ x = cc in ap p (sym f) ∙ left_of (p y) (list_all p l) e
all_at p (y ∷ l) e (suc i) x h = all_at p l (right_of (p y) (list_all p l) e) i x h

pub all_from : {X : Type 0} (p : X → Bool) (l : List X) → ((i : ℕ) (x : X) → slice_get l i ≡ Some x → p x ≡ true) → list_all p l ≡ true
all_from p [] h = refl
all_from p (y ∷ l) h = both (p y) (list_all p l) (h 0 y refl) (all_from p l (λ i x k. h (suc i) x k))

pub prefix_at : {X : Type 0} (p : X → Bool) (l : List X) (i : ℕ) → list_all p (take i l) ≡ true → (j : ℕ) (x : X) → j < i → slice_get l j ≡ Some x → p x ≡ true
prefix_at p [] i e j x k h = absurd (cc)
prefix_at p (y ∷ l) zero e j x k h = absurd (omega arith)
prefix_at p (y ∷ l) (suc i) e zero x k h = let f : y ≡ x = cc in ap p (sym f) ∙ left_of (p y) (list_all p (take i l)) e
prefix_at p (y ∷ l) (suc i) e (suc j) x k h = prefix_at p l i (right_of (p y) (list_all p (take i l)) e) j x (omega arith) h

pub prefix_from : {X : Type 0} (p : X → Bool) (l : List X) (i : ℕ) → ((j : ℕ) (x : X) → j < i → slice_get l j ≡ Some x → p x ≡ true) → list_all p (take i l) ≡ true
prefix_from p l zero h = refl
prefix_from p [] (suc i) h = refl
prefix_from p (y ∷ l) (suc i) h = both (p y) (list_all p (take i l)) (h 0 y (omega arith) refl) (prefix_from p l i (λ j x k e. h (suc j) x (omega arith) e))

pub none_at : {X : Type 0} (p : X → Bool) (l : List X) → list_any p l ≡ false → (i : ℕ) (x : X) → slice_get l i ≡ Some x → p x ≡ false
none_at p [] e i x h = absurd (cc)
none_at p (y ∷ l) e zero x h = let f : y ≡ x = cc in ap p (sym f) ∙ (neither (p y) (list_any p l) e).0
none_at p (y ∷ l) e (suc i) x h = none_at p l (neither (p y) (list_any p l) e).1 i x h

pub none_from : {X : Type 0} (p : X → Bool) (l : List X) → ((i : ℕ) (x : X) → slice_get l i ≡ Some x → p x ≡ false) → list_any p l ≡ false
none_from p [] h = refl
none_from p (y ∷ l) h = ap (λ (t : Bool). t || list_any p l) (h 0 y refl) ∙ none_from p l (λ i x k. h (suc i) x k)

pub get-map : {X Y : Type 0} (f : X → Y) (l : List X) (i : ℕ) (y : Y) → slice_get (map f l) i ≡ Some y → (x : X) × (slice_get l i ≡ Some x) × (f x ≡ y)
get-map f [] i y h = absurd (cc)
get-map f (x ∷ l) zero y h = (x, refl, cc)
get-map f (x ∷ l) (suc i) y h = get-map f l i y h

-- ---- elements of joined lists

pub each_left : {X : Type 0} (P : X → Type 0) (xs ys : List X) → Each P (xs ++ ys) → Each P xs
each_left P [] ys h i x e = absurd (cc)
each_left P (z ∷ xs) ys h zero x e = h 0 x e
each_left P (z ∷ xs) ys h (suc i) x e = each_left P xs ys (λ j y f. h (suc j) y f) i x e

pub each_right : {X : Type 0} (P : X → Type 0) (xs ys : List X) → Each P (xs ++ ys) → Each P ys
each_right P [] ys h i x e = h i x e
each_right P (z ∷ xs) ys h i x e = each_right P xs ys (λ j y f. h (suc j) y f) i x e

pub each_join : {X : Type 0} (P : X → Type 0) (xs ys : List X) → Each P xs → Each P ys → Each P (xs ++ ys)
each_join P [] ys f g i x e = g i x e
each_join P (z ∷ xs) ys f g zero x e = f 0 x e
each_join P (z ∷ xs) ys f g (suc i) x e = each_join P xs ys (λ j y k. f (suc j) y k) g i x e
