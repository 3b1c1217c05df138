-- Weights of values and numbers of their elements.
use Rattle.std.proofs.Common.{◌≡◌, ℕ, zero, suc, ◌+◌, ◌*◌, ◌≤◌, List, [], ◌∷◌, map, length, sum_by, All, Bool, true, false, cond, Option, Some, slice_get, ap, refl, arith}
use Rattle.std.specs.Map.{lookup, keys_of}
use Rattle.std.specs.BTreeMap.{insert_entry}
use Rattle.std.specs.Ordering.{match_ordering}
use Rattle.std.specs.declared.cmp.Ordering.TheVariants.{Less, Equal, Greater}
use Rattle.std.proofs.lemmas.List.Sums.{sum_by-cons}
use Rattle.cel_value.specs.declared.value.Single.{Single}
use Rattle.cel_value.specs.declared.value.Single.TheVariants as single
use Rattle.cel_value.specs.declared.value.Key.{Key}
use Rattle.cel_value.specs.Values.{single_of, single_weight, entry_weight}
use Rattle.cel_value.specs.Lookups.{key_cmp}
use Rattle.cel_meaning.specs.HasKind.{Every, no_more, first}
use Rattle.cel_meaning.proofs.Every.{some_inj, none_some, weaken}

-- the sum of what each element has at most
pub sum_most : {A : Type 0} (f : A → ℕ) (n : ℕ) {xs : List A} → Every (λ x. f x ≤ n) xs → sum_by f xs ≤ length xs * n
sum_most f n no_more = omega arith
sum_most f n (first {x = x} {xs = xs} p ps) = omega (arith, sum_by-cons f x xs, p, sum_most f n ps)

-- one element has at most what all have
pub get_most : {A : Type 0} (f : A → ℕ) (xs : List A) (n : ℕ) (x : A) → slice_get xs n ≡ Some x → f x ≤ sum_by f xs
get_most f [] n x e = none_some e
get_most f (y ∷ xs) zero x e = omega (arith, sum_by-cons f y xs, ap f (some_inj e))
get_most f (y ∷ xs) (suc n) x e = omega (arith, sum_by-cons f y xs, get_most f xs n x e)

pub each_most : {A : Type 0} (f : A → ℕ) (xs : List A) → Every (λ x. f x ≤ sum_by f xs) xs
each_most f [] = no_more
each_most f (x ∷ xs) =
    first (omega (arith, sum_by-cons f x xs)) (weaken (λ y. f y ≤ sum_by f xs) (λ y. f y ≤ sum_by f (x ∷ xs)) (λ y p. omega (arith, p, sum_by-cons f x xs)) (each_most f xs))

pick_most : (b : Bool) (v x : Single) (o : Option Single) (m n : ℕ) → single_weight v ≤ m → (o ≡ Some x → single_weight x ≤ n) → cond b (Some v) o ≡ Some x → single_weight x ≤ m + n
pick_most true v x o m n p g e = omega (arith, p, ap single_weight (some_inj e))
pick_most false v x o m n p g e = omega (arith, g e)

-- the value at a key of a map
pub lookup_most : (test : Key → Bool) (es : List (Key × Single)) (x : Single) → lookup test es ≡ Some x → single_weight x ≤ sum_by entry_weight es
lookup_most test [] x e = none_some e
lookup_most test (y ∷ es) x e =
    omega (arith, sum_by-cons entry_weight y es, pick_most (test y.0) y.1 x (lookup test es) (entry_weight y) (sum_by entry_weight es) (omega arith) (lookup_most test es x) e)

-- the keys of a map
pub keys_most : (es : List (Key × Single)) → sum_by single_weight (map single_of (keys_of es)) ≤ sum_by entry_weight es
keys_most [] = omega arith
keys_most (e ∷ es) = omega (arith, sum_by-cons entry_weight e es, sum_by-cons single_weight (single_of e.0) (map single_of (keys_of es)), keys_most es)

pub keys_many : (es : List (Key × Single)) → length (map single_of (keys_of es)) ≡ length es
keys_many [] = refl
keys_many (e ∷ es) = ap suc (keys_many es)

-- a map with one more entry
pub insert_most : (es : List (Key × Single)) (y : Key) (x : Single) → sum_by entry_weight (insert_entry key_cmp es y x) ≤ sum_by entry_weight es + (single_weight (single_of y) + single_weight x)
insert_most [] y x = omega (arith, sum_by-cons entry_weight (y, x) [])
insert_most (e ∷ es) y x =
    elim (key_cmp y e.0) as (λ o. sum_by entry_weight (match_ordering o ((y, x) ∷ e ∷ es) ((e.0, x) ∷ es) (e ∷ insert_entry key_cmp es y x)) ≤ sum_by entry_weight (e ∷ es) + (single_weight (single_of y) + single_weight x)) [
      | Less ↦ omega (arith, sum_by-cons entry_weight (y, x) (e ∷ es))
      | Equal ↦ omega (arith, sum_by-cons entry_weight (e.0, x) es, sum_by-cons entry_weight e es)
      | Greater ↦ omega (arith, sum_by-cons entry_weight e (insert_entry key_cmp es y x), sum_by-cons entry_weight e es, insert_most es y x)
    ]

pub insert_many : (es : List (Key × Single)) (y : Key) (x : Single) → length (insert_entry key_cmp es y x) ≤ length es + 1
insert_many [] y x = omega arith
insert_many (e ∷ es) y x =
    elim (key_cmp y e.0) as (λ o. length (match_ordering o ((y, x) ∷ e ∷ es) ((e.0, x) ∷ es) (e ∷ insert_entry key_cmp es y x)) ≤ length (e ∷ es) + 1)
    [ Less ↦ omega arith | Equal ↦ omega arith | Greater ↦ omega (arith, insert_many es y x) ]
