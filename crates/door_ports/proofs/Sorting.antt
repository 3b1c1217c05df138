-- A sorted list of what connections expose, from a sorted list of connections.
use Rattle.std.proofs.Common.{◌≡◌, ◌∙◌, ◌<◌, ◌+◌, ◌∷◌, [], ℕ, Bool, true, false, cond, List, ap, sym, refl, subst, arith, filter, length, map}
use Rattle.std.proofs.lemmas.List.{get_or-map, length-map}
use Rattle.std.proofs.lemmas.List.Sorted.{IsPermutation-map}
use Rattle.std.specs.Ordering.{is_lt, nat_cmp}
use Rattle.std.specs.List.Sorted.{IsPermutation, IsSortedBy, IsStableBy, ties}
use Rattle.door_ports.specs.Visits.{Ended}
use Rattle.door_ports.specs.Replies.{AreInOrder}

abbrev below : ℕ → ℕ → Bool
below m n = is_lt (nat_cmp m n)

map_cond : {X Y : Type 0} (h : X → Y) (b : Bool) (x : X) (xs : List X) → cond b (h x ∷ map h xs) (map h xs) ≡ map h (cond b (x ∷ xs) xs)
map_cond h true x xs = refl
map_cond h false x xs = refl

filter_map_is : {X Y : Type 0} (h : X → Y) (p : Y → Bool) (xs : List X) → filter p (map h xs) ≡ map h (filter (λ x. p (h x)) xs)
filter_map_is h p [] = refl
filter_map_is h p (x ∷ xs) = ap (λ l. cond (p (h x)) (h x ∷ l) l) (filter_map_is h p xs) ∙ map_cond h (p (h x)) x (filter (λ y. p (h y)) xs)

module _ {X : Type 0} (h : X → Ended) (numbered : X → ℕ → X) (is : (x : X) (n : ℕ) → (h (numbered x n)).number ≡ n) where
  sorted_map : (xs : List X) → IsSortedBy (λ x y. below (h x).number (h y).number) xs → IsSortedBy (λ (x : Ended) (y : Ended). below x.number y.number) (map h xs)
  sorted_map [] s k d least lt = absurd (omega (arith, lt))
  sorted_map (y ∷ ys) s k d least lt =
      let here : k + 1 < length (y ∷ ys) = omega (arith, length-map (y ∷ ys) h) in
      rw (get_or-map h (y ∷ ys) (k + 1) y d here, get_or-map h (y ∷ ys) k y d (omega arith)) (s k y least here)

  same_ties : (x : X) (n : ℕ) (xs ys : List X) → IsStableBy (λ x y. below (h x).number (h y).number) xs ys → filter (λ (e : X). ties below n (h e).number) ys ≡ filter (λ (e : X). ties below n (h e).number) xs
  same_ties x n xs ys stable = subst (λ m. filter (λ (e : X). ties below m (h e).number) ys ≡ filter (λ (e : X). ties below m (h e).number) xs) (is x n) (stable (numbered x n))

  ties_of : (n : ℕ) (xs ys : List X) → IsStableBy (λ x y. below (h x).number (h y).number) xs ys → filter (λ (e : X). ties below n (h e).number) ys ≡ filter (λ (e : X). ties below n (h e).number) xs
  ties_of n [] [] stable = refl
  ties_of n (x ∷ xs) ys stable = same_ties x n (x ∷ xs) ys stable
  ties_of n [] (y ∷ ys) stable = same_ties y n [] (y ∷ ys) stable

  stable_map : (xs ys : List X) → IsStableBy (λ x y. below (h x).number (h y).number) xs ys → IsStableBy (λ (x : Ended) (y : Ended). below x.number y.number) (map h xs) (map h ys)
  stable_map xs ys stable e = filter_map_is h (λ (f : Ended). ties below e.number f.number) ys ∙ ap (map h) (ties_of e.number xs ys stable) ∙ sym (filter_map_is h (λ (f : Ended). ties below e.number f.number) xs)

  pub in_order_by : (xs ys : List X) → IsPermutation xs ys → IsSortedBy (λ x y. below (h x).number (h y).number) ys → IsStableBy (λ x y. below (h x).number (h y).number) xs ys → AreInOrder (map h xs) (map h ys)
  in_order_by xs ys same s stable = record { same = IsPermutation-map h xs ys same; sorted = sorted_map ys s; stable = stable_map xs ys stable }
