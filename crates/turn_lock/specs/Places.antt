-- Indices in a history. The entries are numbered from 1, so a history of n entries has the indices 1 to n.
use Rattle.std.specs.Prelude.{◌≡◌, ◌⊎◌, ℕ, ◌+◌, ◌<◌, ◌≤◌, ◌==◌, List, [], ◌∷◌, ◌++◌, length, if◌then◌else◌}

-- how often p occurs in the list
abbrev pub times : ℕ → List ℕ → ℕ
times p [] = 0
times p (x ∷ xs) = (if p == x then 1 else 0) + times p xs

-- the indices past the length a of a history that now has the length b, one more at most
abbrev pub new_places : ℕ → ℕ → List ℕ
new_places a b = if a == b then [] else b ∷ []

-- the same history, or that one with one entry more
abbrev pub Grown : {E : Type 0} → List E → List E → Type 0
Grown {E} old now = (now ≡ old) ⊎ ((e : E) × (now ≡ old ++ e ∷ []))

-- each index of the history past the opening occurs once in the list, and no other index occurs in it
pub record OwnsAll {E : Type 0} (opening history : List E) (places : List ℕ) : Type 0 where
  pub each : (p : ℕ) → length opening < p → p ≤ length history → times p places ≡ 1
  pub none_before : (p : ℕ) → p ≤ length opening → times p places ≡ 0
  pub none_after : (p : ℕ) → length history < p → times p places ≡ 0
