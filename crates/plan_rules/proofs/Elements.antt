-- Elements of lists by their indexes, and of lists made of lists.
use Rattle.std.proofs.Common.{ℕ, zero, suc, ◌<◌, ◌≡◌, List, [], ◌∷◌, ◌++◌, Bool, true, false, ◌||◌, cond, Option, None, Some, find, length, map, refl, sym, ap, ◌∙◌, subst, arith}
use Rattle.std.specs.List.{slice_get, list_all, list_any, flat_map, Contains}
use Rattle.std.proofs.lemmas.Option.{slice_get_within, get_or_from_slice_get, slice_get_read}
use Rattle.request_rules.specs.Lists.{Each, EachBoth, EachTwo, first_some}
use Rattle.plan_rules.proofs.Tests.{both, both_none, found_parts, left_of, none_from, right_of}

pub there : {X : Type 0} (xs : List X) (i : ℕ) → i < length xs → (x : X) × (slice_get xs i ≡ Some x)
there [] i h = absurd (omega arith)
there (x ∷ xs) zero h = (x, refl)
there (x ∷ xs) (suc i) h = there xs i (omega arith)

pub Contains-from_get : {X : Type 0} (xs : List X) (i : ℕ) (x : X) → slice_get xs i ≡ Some x → Contains xs x
Contains-from_get xs i x e = (i, slice_get_within xs i x e, get_or_from_slice_get xs i x x e)

pub get-from_contains : {X : Type 0} (xs : List X) (x : X) → (h : Contains xs x) → slice_get xs h.0 ≡ Some x
get-from_contains xs x h = slice_get_read xs (length xs) h.0 x refl h.1 (sym h.2)

pub get-map : {X Y : Type 0} (f : X → Y) (l : List X) (i : ℕ) (y : Y) → slice_get (map f l) i ≡ Some y → (x : X) × (slice_get l i ≡ Some x) × (f x ≡ y)
get-map f [] i y h = absurd (cc)
get-map f (x ∷ l) zero y h = (x, refl, cc)
get-map f (x ∷ l) (suc i) y h = get-map f l i y h

-- ---- each element

pub all_at : {X : Type 0} (p : X → Bool) (l : List X) → list_all p l ≡ true → Each (λ x. p x ≡ true) l
all_at p [] e i x h = absurd (cc)
all_at p (y ∷ l) e zero x h = let f : y ≡ x = cc in ap p (sym f) ∙ left_of (p y) (list_all p l) e
all_at p (y ∷ l) e (suc i) x h = all_at p l (right_of (p y) (list_all p l) e) i x h

pub all_from : {X : Type 0} (p : X → Bool) (l : List X) → Each (λ x. p x ≡ true) l → list_all p l ≡ true
all_from p [] h = refl
all_from p (y ∷ l) h = both (p y) (list_all p l) (h 0 y refl) (all_from p l (λ i x k. h (suc i) x k))

neither : (a b : Bool) → (a || b) ≡ false → (a ≡ false) × (b ≡ false)
neither true b e = absurd (cc)
neither false b e = (refl, e)

pub none_at : {X : Type 0} (p : X → Bool) (l : List X) → list_any p l ≡ false → Each (λ x. p x ≡ false) l
none_at p [] e i x h = absurd (cc)
none_at p (y ∷ l) e zero x h = let f : y ≡ x = cc in ap p (sym f) ∙ (neither (p y) (list_any p l) e).0
none_at p (y ∷ l) e (suc i) x h = none_at p l (neither (p y) (list_any p l) e).1 i x h

pub none_passes : {X : Type 0} (p : X → Bool) (l : List X) → Each (λ x. p x ≡ false) l → list_any p l ≡ false
none_passes p [] h = refl
none_passes p (y ∷ l) h = ap (λ (t : Bool). t || list_any p l) (h 0 y refl) ∙ none_passes p l (λ i x k. h (suc i) x k)

pub found_none : {X : Type 0} (p : X → Bool) (xs : List X) → find p xs ≡ None → Each (λ x. p x ≡ false) xs
found_none p [] e i x h = absurd (cc)
found_none p (y ∷ ys) e zero x h = let f : y ≡ x = cc in ap p (sym f) ∙ (found_parts (p y) y (find p ys) e).0
found_none p (y ∷ ys) e (suc i) x h = found_none p ys (found_parts (p y) y (find p ys) e).1 i x h

pub firsts_none : {X Y : Type 0} (f : X → Option Y) (xs : List X) → first_some f xs ≡ None → Each (λ x. f x ≡ None) xs
firsts_none f [] e i x h = absurd (cc)
firsts_none f (y ∷ ys) e zero x h = let g : y ≡ x = cc in ap f (sym g) ∙ (both_none (f y) (first_some f ys) e).0
firsts_none f (y ∷ ys) e (suc i) x h = firsts_none f ys (both_none (f y) (first_some f ys) e).1 i x h

-- ---- joined lists

pub each_left : {X : Type 0} (P : X → Type 0) (xs ys : List X) → Each P (xs ++ ys) → Each P xs
each_left P [] ys h i x e = absurd (cc)
each_left P (z ∷ xs) ys h zero x e = h 0 x e
each_left P (z ∷ xs) ys h (suc i) x e = each_left P xs ys (λ j y f. h (suc j) y f) i x e

pub each_right : {X : Type 0} (P : X → Type 0) (xs ys : List X) → Each P (xs ++ ys) → Each P ys
each_right P [] ys h i x e = h i x e
each_right P (z ∷ xs) ys h i x e = each_right P xs ys (λ j y f. h (suc j) y f) i x e

pub each_join : {X : Type 0} (P : X → Type 0) (xs ys : List X) → Each P xs → Each P ys → Each P (xs ++ ys)
each_join P [] ys f g i x e = g i x e
each_join P (z ∷ xs) ys f g zero x e = f 0 x e
each_join P (z ∷ xs) ys f g (suc i) x e = each_join P xs ys (λ j y k. f (suc j) y k) g i x e

pub two_join : {X : Type 0} (R : X → X → Type 0) (xs ys : List X) → EachTwo R xs → EachTwo R ys → Each (λ x. Each (R x) ys) xs → EachTwo R (xs ++ ys)
two_join R [] ys f g h i j x y lt e k = g i j x y lt e k
two_join R (z ∷ xs) ys f g h i zero x y lt e k = absurd (omega arith)
two_join R (z ∷ xs) ys f g h zero (suc j) x y lt e k =
    let s : z ≡ x = cc in
    subst (λ v. R v y) s (each_join (R z) xs ys (λ n v l. f 0 (suc n) z v (omega arith) refl l) (h 0 z refl) j y k)
two_join R (z ∷ xs) ys f g h (suc i) (suc j) x y lt e k =
    two_join R xs ys (λ a b u v l m n. f (suc a) (suc b) u v (omega arith) m n) g (λ n v l. h (suc n) v l) i j x y (omega arith) e k

-- ---- images

pub each_of_map : {X Y : Type 0} (f : X → Y) (P : Y → Type 0) (xs : List X) → Each P (map f xs) → Each (λ x. P (f x)) xs
each_of_map f P [] h i x e = absurd (cc)
each_of_map f P (y ∷ ys) h zero x e = let s : y ≡ x = cc in subst (λ v. P (f v)) s (h 0 (f y) refl)
each_of_map f P (y ∷ ys) h (suc i) x e = each_of_map f P ys (λ j v l. h (suc j) v l) i x e

pub each_to_map : {X Y : Type 0} (f : X → Y) (P : Y → Type 0) (xs : List X) → Each (λ x. P (f x)) xs → Each P (map f xs)
each_to_map f P xs h i y e = let p = get-map f xs i y e in subst P p.2 (h i p.0 p.1)

pub two_to_map : {X Y : Type 0} (f : X → Y) (R : Y → Y → Type 0) (xs : List X) → EachTwo (λ x y. R (f x) (f y)) xs → EachTwo R (map f xs)
two_to_map f R xs h i j x y lt e k =
    let p = get-map f xs i x e in
    let q = get-map f xs j y k in
    subst (λ v. R v y) p.2 (subst (λ v. R (f p.0) v) q.2 (h i j p.0 q.0 lt p.1 q.1))

pub both_to_map : {X Y Z : Type 0} (f : X → Y) (g : X → Z) (R : Y → Z → Type 0) (xs : List X) → Each (λ x. R (f x) (g x)) xs → EachBoth R (map f xs) (map g xs)
both_to_map f g R [] h i y z e k = absurd (cc)
both_to_map f g R (x ∷ xs) h zero y z e k =
    let p : f x ≡ y = cc in
    let q : g x ≡ z = cc in
    subst (λ v. R v z) p (subst (λ v. R (f x) v) q (h 0 x refl))
both_to_map f g R (x ∷ xs) h (suc i) y z e k = both_to_map f g R xs (λ j v l. h (suc j) v l) i y z e k

pub each_of_flat : {X Y : Type 0} (f : X → List Y) (P : Y → Type 0) (xs : List X) → Each P (flat_map f xs) → Each (λ x. Each P (f x)) xs
each_of_flat f P [] h i x e = absurd (cc)
each_of_flat f P (y ∷ ys) h zero x e = let s : y ≡ x = cc in subst (λ v. Each P (f v)) s (each_left P (f y) (flat_map f ys) h)
each_of_flat f P (y ∷ ys) h (suc i) x e = each_of_flat f P ys (each_right P (f y) (flat_map f ys) h) i x e

pub each_to_flat : {X Y : Type 0} (f : X → List Y) (P : Y → Type 0) (xs : List X) → Each (λ x. Each P (f x)) xs → Each P (flat_map f xs)
each_to_flat f P [] h i x e = absurd (cc)
each_to_flat f P (y ∷ ys) h i x e = each_join P (f y) (flat_map f ys) (h 0 y refl) (each_to_flat f P ys (λ j v l. h (suc j) v l)) i x e

pub map-at : {X Y : Type 0} (f : X → Y) (xs : List X) (i : ℕ) (x : X) → slice_get xs i ≡ Some x → slice_get (map f xs) i ≡ Some (f x)
map-at f [] i x e = absurd (cc)
map-at f (y ∷ ys) zero x e = let s : y ≡ x = cc in ap (λ v. Some (f v)) s
map-at f (y ∷ ys) (suc i) x e = map-at f ys i x e

pub two_of_map : {X Y : Type 0} (f : X → Y) (R : Y → Y → Type 0) (xs : List X) → EachTwo R (map f xs) → EachTwo (λ x y. R (f x) (f y)) xs
two_of_map f R xs h i j x y lt e k = h i j (f x) (f y) lt (map-at f xs i x e) (map-at f xs j y k)

pub get-left : {X : Type 0} (xs ys : List X) (i : ℕ) (x : X) → slice_get xs i ≡ Some x → slice_get (xs ++ ys) i ≡ Some x
get-left [] ys i x e = absurd (cc)
get-left (z ∷ xs) ys zero x e = e
get-left (z ∷ xs) ys (suc i) x e = get-left xs ys i x e

pub two_left : {X : Type 0} (R : X → X → Type 0) (xs ys : List X) → EachTwo R (xs ++ ys) → EachTwo R xs
two_left R xs ys h i j x y lt e k = h i j x y lt (get-left xs ys i x e) (get-left xs ys j y k)

pub two_right : {X : Type 0} (R : X → X → Type 0) (xs ys : List X) → EachTwo R (xs ++ ys) → EachTwo R ys
two_right R [] ys h i j x y lt e k = h i j x y lt e k
two_right R (z ∷ xs) ys h i j x y lt e k = two_right R xs ys (λ a b u v l m n. h (suc a) (suc b) u v (omega arith) m n) i j x y lt e k

pub none_found : {X : Type 0} (p : X → Bool) (xs : List X) → Each (λ x. p x ≡ false) xs → find p xs ≡ None
none_found p [] h = refl
none_found {X} p (y ∷ ys) h = ap (λ (b : Bool). cond b (Some y) (find p ys)) (h 0 y refl) ∙ none_found p ys (λ i x e. h (suc i) x e)

found_by : {X : Type 0} (p : X → Bool) (y : X) (ys : List X) (x : X) (b : Bool) → p y ≡ b → cond b (Some y) (find p ys) ≡ Some x → (find p ys ≡ Some x → (i : ℕ) × (slice_get ys i ≡ Some x) × (p x ≡ true))
    → (i : ℕ) × (slice_get (y ∷ ys) i ≡ Some x) × (p x ≡ true)
found_by p y ys x true e f rest = let s : y ≡ x = cc in (0, f, sym (ap p s) ∙ e)
found_by p y ys x false e f rest = let r = rest f in (suc r.0, r.1, r.2)

pub found_at : {X : Type 0} (p : X → Bool) (xs : List X) (x : X) → find p xs ≡ Some x → (i : ℕ) × (slice_get xs i ≡ Some x) × (p x ≡ true)
found_at p [] x e = absurd (cc)
found_at p (y ∷ ys) x e = found_by p y ys x (p y) refl e (found_at p ys x)

pub firsts_are_none : {X Y : Type 0} (f : X → Option Y) (xs : List X) → Each (λ x. f x ≡ None) xs → first_some f xs ≡ None
firsts_are_none f [] h = refl
firsts_are_none f (y ∷ ys) h = none_from (f y) (first_some f ys) (h 0 y refl) (firsts_are_none f ys (λ i x e. h (suc i) x e))

pub both_of_map : {X Y Z : Type 0} (f : X → Y) (g : X → Z) (R : Y → Z → Type 0) (xs : List X) → EachBoth R (map f xs) (map g xs) → Each (λ x. R (f x) (g x)) xs
both_of_map f g R xs h i x e = h i (f x) (g x) (map-at f xs i x e) (map-at g xs i x e)
