-- What holds of each item of a list, and of each item and each later one.
use Rattle.std.proofs.Common.{ℕ, zero, suc, ◌≡◌, List, [], ◌∷◌, ◌++◌, Bool, true, false, cond, Some, refl, ap, subst}
use Rattle.std.specs.Prelude.{filter, map, slice_get, unwrap_or}
use Rattle.std.specs.List.{AllByRecursion, Contains, flat_map}
use Rattle.std.specs.List.Sorted.{IsStrictlySortedBy}
use Rattle.std.specs.declared.cmp.Ordering.{Ordering}
use Rattle.std.specs.declared.cmp.Ordering.TheVariants.{Less}
use Rattle.pool_view.proofs.Members.{in_head, in_tail}

-- ---- each item

pub all_imply : {X : Type 0} (P Q : X → Type 0) (xs : List X) → ((x : X) → P x → Q x) → AllByRecursion P xs → AllByRecursion Q xs
all_imply P Q [] f h = tt
all_imply P Q (x ∷ xs) f h = (f x h.0, all_imply P Q xs f h.1)

pub all_both : {X : Type 0} (P Q R : X → Type 0) (xs : List X) → ((x : X) → P x → Q x → R x) → AllByRecursion P xs → AllByRecursion Q xs → AllByRecursion R xs
all_both P Q R [] f g h = tt
all_both P Q R (x ∷ xs) f g h = (f x g.0 h.0, all_both P Q R xs f g.1 h.1)

pub all_append : {X : Type 0} (P : X → Type 0) (xs ys : List X) → AllByRecursion P xs → AllByRecursion P ys → AllByRecursion P (xs ++ ys)
all_append P [] ys f g = g
all_append P (x ∷ xs) ys f g = (f.0, all_append P xs ys f.1 g)

filter_by : {X : Type 0} (b : Bool) (P : X → Type 0) (x : X) (ys : List X) → P x → AllByRecursion P ys → AllByRecursion P (cond b (x ∷ ys) ys)
filter_by true P x ys f g = (f, g)
filter_by false P x ys f g = g

pub all_filter : {X : Type 0} (P : X → Type 0) (t : X → Bool) (xs : List X) → AllByRecursion P xs → AllByRecursion P (filter t xs)
all_filter P t [] h = tt
all_filter P t (x ∷ xs) h = filter_by (t x) P x (filter t xs) h.0 (all_filter P t xs h.1)

pub all_map : {X Y : Type 0} (P : Y → Type 0) (f : X → Y) (xs : List X) → AllByRecursion (λ x. P (f x)) xs → AllByRecursion P (map f xs)
all_map P f [] h = tt
all_map P f (x ∷ xs) h = (h.0, all_map P f xs h.1)

pub all_unmap : {X Y : Type 0} (P : Y → Type 0) (f : X → Y) (xs : List X) → AllByRecursion P (map f xs) → AllByRecursion (λ x. P (f x)) xs
all_unmap P f [] h = tt
all_unmap P f (x ∷ xs) h = (h.0, all_unmap P f xs h.1)

pub all_flat : {X Y : Type 0} (P : Y → Type 0) (f : X → List Y) (xs : List X) → ((x : X) → AllByRecursion P (f x)) → AllByRecursion P (flat_map f xs)
all_flat P f [] h = tt
all_flat P f (x ∷ xs) h = all_append P (f x) (flat_map f xs) (h x) (all_flat P f xs h)

-- if it holds of what is made of each item for which another fact holds
pub all_flat_by : {X Y : Type 0} (P : X → Type 0) (Q : Y → Type 0) (f : X → List Y) (xs : List X) → ((x : X) → P x → AllByRecursion Q (f x)) → AllByRecursion P xs → AllByRecursion Q (flat_map f xs)
all_flat_by P Q f [] h g = tt
all_flat_by P Q f (x ∷ xs) h g = all_append Q (f x) (flat_map f xs) (h x g.0) (all_flat_by P Q f xs h g.1)

pub same_some : {X : Type 0} (x y : X) → Some x ≡ Some y → x ≡ y
same_some x y e = ap (λ o. unwrap_or o x) e

pub all_at : {X : Type 0} (P : X → Type 0) (xs : List X) (n : ℕ) (x : X) → AllByRecursion P xs → slice_get xs n ≡ Some x → P x
all_at P [] n x h e = absurd (cc)
all_at P (y ∷ ys) zero x h e = subst P (same_some y x e) h.0
all_at P (y ∷ ys) (suc n) x h e = all_at P ys n x h.1 e

pub all_in : {X : Type 0} (xs : List X) → AllByRecursion (λ x. Contains xs x) xs
all_in [] = tt
all_in (x ∷ xs) = (in_head x xs, all_imply (λ y. Contains xs y) (λ y. Contains (x ∷ xs) y) xs (λ y h. in_tail x y xs h) (all_in xs))

-- ---- each item and each later one

abbrev pub Pairwise : {X : Type 0} → (X → X → Type 0) → List X → Type 0
Pairwise R [] = Unit
Pairwise R (x ∷ xs) = AllByRecursion (λ y. R x y) xs × Pairwise R xs

pub pairs_imply : {X : Type 0} (R S : X → X → Type 0) (xs : List X) → ((x y : X) → R x y → S x y) → Pairwise R xs → Pairwise S xs
pairs_imply R S [] f h = tt
pairs_imply R S (x ∷ xs) f h = (all_imply (λ y. R x y) (λ y. S x y) xs (f x) h.0, pairs_imply R S xs f h.1)

-- if another fact holds of each item
pub pairs_imply_by : {X : Type 0} (P : X → Type 0) (R S : X → X → Type 0) (xs : List X) → ((x y : X) → P x → P y → R x y → S x y) → AllByRecursion P xs → Pairwise R xs → Pairwise S xs
pairs_imply_by P R S [] f g h = tt
pairs_imply_by P R S (x ∷ xs) f g h = (all_both P (λ y. R x y) (λ y. S x y) xs (λ y p r. f x y g.0 p r) g.1 h.0, pairs_imply_by P R S xs f g.1 h.1)

pub pairs_append : {X : Type 0} (R : X → X → Type 0) (xs ys : List X) → Pairwise R xs → Pairwise R ys → AllByRecursion (λ x. AllByRecursion (λ y. R x y) ys) xs → Pairwise R (xs ++ ys)
pairs_append R [] ys f g h = g
pairs_append R (x ∷ xs) ys f g h = (all_append (λ y. R x y) xs ys f.0 h.0, pairs_append R xs ys f.1 g h.1)

pairs_filter_by : {X : Type 0} (b : Bool) (R : X → X → Type 0) (x : X) (ys : List X) → AllByRecursion (λ y. R x y) ys → Pairwise R ys → Pairwise R (cond b (x ∷ ys) ys)
pairs_filter_by true R x ys f g = (f, g)
pairs_filter_by false R x ys f g = g

pub pairs_filter : {X : Type 0} (R : X → X → Type 0) (t : X → Bool) (xs : List X) → Pairwise R xs → Pairwise R (filter t xs)
pairs_filter R t [] h = tt
pairs_filter R t (x ∷ xs) h = pairs_filter_by (t x) R x (filter t xs) (all_filter (λ y. R x y) t xs h.0) (pairs_filter R t xs h.1)

pub pairs_map : {X Y : Type 0} (R : Y → Y → Type 0) (f : X → Y) (xs : List X) → Pairwise (λ x y. R (f x) (f y)) xs → Pairwise R (map f xs)
pairs_map R f [] h = tt
pairs_map R f (x ∷ xs) h = (all_map (λ y. R (f x) y) f xs h.0, pairs_map R f xs h.1)

pub pairs_unmap : {X Y : Type 0} (R : Y → Y → Type 0) (f : X → Y) (xs : List X) → Pairwise R (map f xs) → Pairwise (λ x y. R (f x) (f y)) xs
pairs_unmap R f [] h = tt
pairs_unmap R f (x ∷ xs) h = (all_unmap (λ y. R (f x) y) f xs h.0, pairs_unmap R f xs h.1)

-- each item of one list with each of those made of later ones
with_none : {Y : Type 0} (R : Y → Y → Type 0) (us : List Y) → AllByRecursion (λ a. AllByRecursion (λ b. R a b) []) us
with_none R [] = tt
with_none R (a ∷ us) = (tt, with_none R us)

with_more : {Y : Type 0} (R : Y → Y → Type 0) (us vs ws : List Y) → AllByRecursion (λ a. AllByRecursion (λ b. R a b) vs) us → AllByRecursion (λ a. AllByRecursion (λ b. R a b) ws) us
    → AllByRecursion (λ a. AllByRecursion (λ b. R a b) (vs ++ ws)) us
with_more R us vs ws g h = all_both (λ a. AllByRecursion (λ b. R a b) vs) (λ a. AllByRecursion (λ b. R a b) ws) (λ a. AllByRecursion (λ b. R a b) (vs ++ ws)) us (λ a p q. all_append (λ b. R a b) vs ws p q) g h

with_later : {X Y : Type 0} (S : X → X → Type 0) (R : Y → Y → Type 0) (f : X → List Y) (x : X) (xs : List X) → ((x y : X) → S x y → AllByRecursion (λ a. AllByRecursion (λ b. R a b) (f y)) (f x))
    → AllByRecursion (λ y. S x y) xs → AllByRecursion (λ a. AllByRecursion (λ b. R a b) (flat_map f xs)) (f x)
with_later S R f x [] h k = with_none R (f x)
with_later S R f x (y ∷ ys) h k = with_more R (f x) (f y) (flat_map f ys) (h x y k.0) (with_later S R f x ys h k.1)

-- lists made of the items of a list, where they are so each by itself, and each with each later one
pub pairs_flat : {X Y : Type 0} (S : X → X → Type 0) (R : Y → Y → Type 0) (f : X → List Y) (xs : List X) → ((x : X) → Pairwise R (f x)) → ((x y : X) → S x y → AllByRecursion (λ a. AllByRecursion (λ b. R a b) (f y)) (f x))
    → Pairwise S xs → Pairwise R (flat_map f xs)
pairs_flat S R f [] g h k = tt
pairs_flat S R f (x ∷ xs) g h k =
    pairs_append R (f x) (flat_map f xs) (g x) (pairs_flat S R f xs g h k.1) (with_later S R f x xs h k.0)

-- each item of one list with each of another, where each fact holds of those of its list
pub all_pairs_by : {Y : Type 0} (P Q : Y → Type 0) (R : Y → Y → Type 0) (us vs : List Y) → ((a b : Y) → P a → Q b → R a b) → AllByRecursion P us → AllByRecursion Q vs → AllByRecursion (λ a. AllByRecursion (λ b. R a b) vs) us
all_pairs_by P Q R us vs f g h = all_imply P (λ a. AllByRecursion (λ b. R a b) vs) us (λ a p. all_imply Q (λ b. R a b) vs (λ b q. f a b p q) h) g

-- ---- indexes of items that have nothing in common with each other

pub same_place : {X : Type 0} (R : X → X → Type 0) (xs : List X) (n m : ℕ) (x y : X) → Pairwise R xs → (R x y → ⊥) → (R y x → ⊥) → slice_get xs n ≡ Some x → slice_get xs m ≡ Some y → n ≡ m
same_place R [] n m x y h forth back e f = absurd (cc)
same_place R (z ∷ zs) zero zero x y h forth back e f = refl
same_place R (z ∷ zs) zero (suc m) x y h forth back e f = absurd (forth (subst (λ w. R w y) (same_some z x e) (all_at (λ w. R z w) zs m y h.0 f)))
same_place R (z ∷ zs) (suc n) zero x y h forth back e f = absurd (back (subst (λ w. R w x) (same_some z y f) (all_at (λ w. R z w) zs n x h.0 e)))
same_place R (z ∷ zs) (suc n) (suc m) x y h forth back e f = ap suc (same_place R zs n m x y h.1 forth back e f)

-- ---- in strict order

pub pairs_sorted : {K : Type 0} (c : K → K → Ordering) (ks : List K) → IsStrictlySortedBy c ks → Pairwise (λ a b. c a b ≡ Less) ks
unfolding IsStrictlySortedBy
pairs_sorted c [] h = tt
pairs_sorted c (k ∷ ks) h = (h.0, pairs_sorted c ks h.1)

pub sorted_pairs : {K : Type 0} (c : K → K → Ordering) (ks : List K) → Pairwise (λ a b. c a b ≡ Less) ks → IsStrictlySortedBy c ks
unfolding IsStrictlySortedBy
sorted_pairs c [] h = tt
sorted_pairs c (k ∷ ks) h = (h.0, sorted_pairs c ks h.1)
