-- Facts about lists of views, and sums over them.
use Rattle.std.proofs.Common.{◌≡◌, ◌≢◌, ℕ, zero, suc, ◌+◌, ◌<◌, ◌≤◌, List, [], ◌∷◌, ◌++◌, length, set, sym, refl, ap, ◌∙◌, subst, ⊎_elim, inl, inr, arith, append_assoc, eq-eqb, ne_eqb, ltb-true, ltb-false, ltb, Bool, true, false, if◌then◌else◌}
use mathlib.Core.Option.{some, some-ne-none, some-injective}
use mathlib.Core.List.{IsPrefix}
use lib.ListN.{get_elem?}
use Rattle.atomic_table.specs.Table.{rest}
use Rattle.atomic_table.proofs.Lists.{at_set, set_here}
use Rattle.turn_lock.specs.declared.view.View.{View}
use Rattle.turn_lock.specs.Places.{times, new_places, Grown}
use Rattle.turn_lock.specs.Known.{longer}
use Rattle.turn_lock.specs.Rule.{total}
use Rattle.turn_lock.specs.Steps.{shorter}

module _ {E : Type 0} where
  pub total_set : (f : View E → ℕ) (l : List (View E)) (i : ℕ) (v w : View E) → get_elem? l i ≡ some v → total f (set l i w) + f v ≡ total f l + f w
  total_set f [] i v w e = absurd (some-ne-none v (sym e))
  total_set f (x ∷ xs) zero v w e = let is : f x ≡ f v = ap f (some-injective x v e) in omega arith
  total_set f (x ∷ xs) (suc i) v w e = let h = total_set f xs i v w e in omega arith

  pub total_at : (f : View E → ℕ) (l : List (View E)) (i : ℕ) (v : View E) → get_elem? l i ≡ some v → f v ≤ total f l
  total_at f [] i v e = absurd (some-ne-none v (sym e))
  total_at f (x ∷ xs) zero v e = let is : f x ≡ f v = ap f (some-injective x v e) in omega arith
  total_at f (x ∷ xs) (suc i) v e = let h = total_at f xs i v e in omega arith

  pub total_two : (f : View E → ℕ) (l : List (View E)) (i j : ℕ) (v w : View E) → get_elem? l i ≡ some v → get_elem? l j ≡ some w → j ≢ i → f v + f w ≤ total f l
  total_two f [] i j v w e e' n = absurd (some-ne-none v (sym e))
  total_two f (x ∷ xs) zero zero v w e e' n = absurd (n refl)
  total_two f (x ∷ xs) zero (suc j) v w e e' n = let is : f x ≡ f v = ap f (some-injective x v e) in let h = total_at f xs j w e' in omega arith
  total_two f (x ∷ xs) (suc i) zero v w e e' n = let is : f x ≡ f w = ap f (some-injective x w e') in let h = total_at f xs i v e in omega arith
  total_two f (x ∷ xs) (suc i) (suc j) v w e e' n = let h = total_two f xs i j v w e e' (λ q. n (ap suc q)) in omega arith

  pub total_le : (f g : View E → ℕ) (l : List (View E)) → ((j : ℕ) (v : View E) → get_elem? l j ≡ some v → f v ≤ g v) → total f l ≤ total g l
  total_le f g [] h = omega arith
  total_le f g (x ∷ xs) h = let a = h 0 x refl in let b = total_le f g xs (λ j v e. h (suc j) v e) in omega arith

  pub total_none : (f : View E → ℕ) (l : List (View E)) → ((j : ℕ) (v : View E) → get_elem? l j ≡ some v → f v ≡ 0) → total f l ≡ 0
  total_none f [] h = refl
  total_none f (x ∷ xs) h = let a = h 0 x refl in let b = total_none f xs (λ j v e. h (suc j) v e) in omega arith

  pub total_one : (f : View E → ℕ) (l : List (View E)) (i : ℕ) (v : View E) → get_elem? l i ≡ some v → ((j : ℕ) (u : View E) → j ≢ i → get_elem? l j ≡ some u → f u ≡ 0) → total f l ≡ f v
  total_one f [] i v e h = absurd (some-ne-none v (sym e))
  total_one f (x ∷ xs) zero v e h = let is : f x ≡ f v = ap f (some-injective x v e) in let b = total_none f xs (λ j u e'. h (suc j) u (λ q. absurd (omega arith)) e') in omega arith
  total_one f (x ∷ xs) (suc i) v e h = let a = h 0 x (λ q. absurd (omega arith)) refl in let b = total_one f xs i v e (λ j u n e'. h (suc j) u (λ q. n (omega arith)) e') in omega arith

  pub total_snoc : (f : View E → ℕ) (l : List (View E)) (w : View E) → total f (l ++ w ∷ []) ≡ total f l + f w
  total_snoc f [] w = omega arith
  total_snoc f (x ∷ xs) w = let h = total_snoc f xs w in omega arith

  abbrev pub EachView : (ℕ → View E → Type 0) → List (View E) → Type 0
  EachView F l = (j : ℕ) (u : View E) → get_elem? l j ≡ some u → F j u

  pub all_set : (F : ℕ → View E → Type 0) (l : List (View E)) (i : ℕ) (w : View E) → F i w → ((j : ℕ) (u : View E) → j ≢ i → get_elem? l j ≡ some u → F j u) → EachView F (set l i w)
  all_set F l i w mine others j u e = ⊎_elim (λ (x : (j ≡ i) × (w ≡ u)). subst (λ (y : ℕ × View E). F y.0 y.1) (λ k. (sym x.0 k, x.1 k)) mine)
      (λ (x : (j ≢ i) × (get_elem? l j ≡ some u)). others j u x.0 x.1) (at_set l i j w u e)

pub times_append : (p : ℕ) (xs ys : List ℕ) → times p (xs ++ ys) ≡ times p xs + times p ys
times_append p [] ys = omega arith
times_append p (x ∷ xs) ys = let h = times_append p xs ys in omega arith

-- how often p is among the new indices
pub no_new : (a b p : ℕ) → b ≡ a → times p (new_places a b) ≡ 0
no_new a b p e = rw (eq-eqb a b (sym e))

pub new_here : (a b p : ℕ) → b ≡ a + 1 → p ≡ b → times p (new_places a b) ≡ 1
new_here a b p e h = rw (ne_eqb a b (λ q. absurd (omega arith)), eq-eqb p b h)

pub new_elsewhere : (a b p : ℕ) → b ≡ a + 1 → p ≢ b → times p (new_places a b) ≡ 0
new_elsewhere a b p e h = rw (ne_eqb a b (λ q. absurd (omega arith)), ne_eqb p b h)

module _ {A : Type 0} where
  pub at_less : (l : List A) (i : ℕ) (a : A) → get_elem? l i ≡ some a → i < length l
  at_less [] i a e = absurd (some-ne-none a (sym e))
  at_less (x ∷ xs) zero a e = omega arith
  at_less (x ∷ xs) (suc i) a e = let h = at_less xs i a e in omega arith

  pub set_at : (l : List A) (i : ℕ) (v w : A) → get_elem? l i ≡ some v → get_elem? (set l i w) i ≡ some w
  set_at l i v w e = set_here l i w (at_less l i v e)

  pub prefix_self : (xs : List A) → IsPrefix xs xs
  prefix_self [] = ([], refl)
  prefix_self (x ∷ xs) = let r = prefix_self xs in (r.0, ap (λ ys. x ∷ ys) r.1)

  pub prefix_grown : (xs old now : List A) → IsPrefix xs old → Grown old now → IsPrefix xs now
  prefix_grown xs old now p (inl e) = subst (IsPrefix xs) (sym e) p
  prefix_grown xs old now p (inr e) = (p.0 ++ e.0 ∷ [], sym (append_assoc xs p.0 (e.0 ∷ [])) ∙ ap (λ l. l ++ e.0 ∷ []) p.1 ∙ sym e.1)

pub has_slot : {S : Type 0} (k : ℕ) (x : S) (l m : List (ℕ × S)) → l ≡ (k, x) ∷ m → l ≡ (k, x) ∷ rest l
has_slot k x l m e = e ∙ ap (λ z. (k, x) ∷ z) (sym (ap rest e))

module _ {E : Type 0} where
  longer_by : (b : Bool) (x y : List E) → ltb (length x) (length y) ≡ b → (F : List E → List E → Type 0) → (length x ≤ length y → F y x) → (length y ≤ length x → F x y) → F (if b then y else x) (if b then x else y)
  longer_by true x y e F f g = f (let lt : length x < length y = ltb-true (length x) (length y) e in omega arith)
  longer_by false x y e F f g = g (ltb-false (length x) (length y) e)

  -- by cases on which is longer
  pub longer_cases : (x y : List E) (F : List E → List E → Type 0) → (length x ≤ length y → F y x) → (length y ≤ length x → F x y) → F (longer x y) (shorter x y)
  longer_cases x y F f g = longer_by (ltb (length x) (length y)) x y refl F f g

  -- of two prefixes of one list the shorter is a prefix of the longer
  pub prefix_shorter : (xs ys zs : List E) → IsPrefix xs zs → IsPrefix ys zs → length xs ≤ length ys → IsPrefix xs ys
  prefix_shorter [] ys zs p q le = (ys, refl)
  prefix_shorter (x ∷ xs) [] zs p q le = absurd (omega arith)
  prefix_shorter (x ∷ xs) (y ∷ ys) [] p q le = absurd (cc (p.1))
  prefix_shorter (x ∷ xs) (y ∷ ys) (z ∷ zs) p q le =
      let heads : x ≡ y = cc (p.1, q.1) in
      let rest = prefix_shorter xs ys zs (p.0, cc (p.1)) (q.0, cc (q.1)) (omega arith) in
      (rest.0, cc (heads, rest.1))
