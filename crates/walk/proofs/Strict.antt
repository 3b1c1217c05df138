-- That the order is strict, and lists in order.
use Rattle.std.proofs.Common.{ℕ, ◌<◌, List, [], ◌∷◌, sym, ◌∙◌, subst, inl, inr, arith}
use Rattle.walk.specs.Lists.{Precedes}
use Rattle.walk.specs.Walk.{Item, IsBefore, InOrder}
use Rattle.walk.proofs.Members.{In-from_contains}
use Rattle.walk.proofs.Sorted.{Sorted}

pub Precedes-irreflexive : (a : List ℕ) → Precedes a a → ⊥
Precedes-irreflexive [] h = h
Precedes-irreflexive (x ∷ xs) (inl h) = absurd (omega (arith, h))
Precedes-irreflexive (x ∷ xs) (inr h) = Precedes-irreflexive xs h.1

pub Precedes-transitive : (a b c : List ℕ) → Precedes a b → Precedes b c → Precedes a c
Precedes-transitive [] [] c h k = absurd h
Precedes-transitive [] (y ∷ ys) [] h k = absurd k
Precedes-transitive [] (y ∷ ys) (z ∷ zs) h k = tt
Precedes-transitive (x ∷ xs) [] c h k = absurd h
Precedes-transitive (x ∷ xs) (y ∷ ys) [] h k = absurd k
Precedes-transitive (x ∷ xs) (y ∷ ys) (z ∷ zs) (inl h) (inl k) = inl (omega (arith, h, k))
Precedes-transitive (x ∷ xs) (y ∷ ys) (z ∷ zs) (inl h) (inr k) = inl (subst (λ (w : ℕ). x < w) k.0 h)
Precedes-transitive (x ∷ xs) (y ∷ ys) (z ∷ zs) (inr h) (inl k) = inl (subst (λ (w : ℕ). w < z) (sym h.0) k)
Precedes-transitive (x ∷ xs) (y ∷ ys) (z ∷ zs) (inr h) (inr k) = inr (h.0 ∙ k.0, Precedes-transitive xs ys zs h.1 k.1)

pub IsBefore-irreflexive : (x : Item) → IsBefore x x → ⊥
IsBefore-irreflexive x (inl h) = Precedes-irreflexive x.choice h
IsBefore-irreflexive x (inr h) = Precedes-irreflexive x.positions h.1

pub IsBefore-transitive : (x y z : Item) → IsBefore x y → IsBefore y z → IsBefore x z
IsBefore-transitive x y z (inl h) (inl k) = inl (Precedes-transitive x.choice y.choice z.choice h k)
IsBefore-transitive x y z (inl h) (inr k) = inl (subst (λ (w : List ℕ). Precedes x.choice w) k.0 h)
IsBefore-transitive x y z (inr h) (inl k) = inl (subst (λ (w : List ℕ). Precedes w z.choice) (sym h.0) k)
IsBefore-transitive x y z (inr h) (inr k) = inr (h.0 ∙ k.0, Precedes-transitive x.positions y.positions z.positions h.1 k.1)

pub InOrder-from_sorted : (xs : List Item) → Sorted IsBefore xs → InOrder xs
InOrder-from_sorted [] s = tt
InOrder-from_sorted (x ∷ xs) s = (λ y i. s.0 y (In-from_contains xs y i), InOrder-from_sorted xs s.1)
