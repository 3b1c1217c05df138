-- Elements of a list with one more at the prefix.
use Rattle.std.proofs.Common.{ℕ, zero, suc, ◌<◌, ◌≡◌, ◌⊎◌, inl, inr, List, [], ◌∷◌, length, get_or, refl, arith}
use Rattle.std.specs.List.{Contains}

pub in_head : {X : Type 0} (x : X) (xs : List X) → Contains (x ∷ xs) x
in_head x xs = (0, omega arith, refl)

pub in_tail : {X : Type 0} (x y : X) (xs : List X) → Contains xs y → Contains (x ∷ xs) y
in_tail x y xs h = (suc h.0, (let lt = h.1 in omega (arith, lt)), h.2)

head_by : {X : Type 0} (x y : X) (xs : List X) (k : ℕ) → k < length (x ∷ xs) → get_or (x ∷ xs) k y ≡ y → (x ≡ y) ⊎ Contains xs y
head_by x y xs zero lt e = inl e
head_by x y xs (suc k) lt e = inr (k, omega (arith, lt), e)

pub head_or : {X : Type 0} (x y : X) (xs : List X) → Contains (x ∷ xs) y → (x ≡ y) ⊎ Contains xs y
head_or x y xs h = head_by x y xs h.0 h.1 h.2

pub none_in : {X : Type 0} (y : X) → Contains [] y → ⊥
none_in y h = let lt = h.1 in absurd (omega (arith, lt))
