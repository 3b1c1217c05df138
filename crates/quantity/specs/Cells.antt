-- Decimal numbers of many digits as the code keeps them: one cell for each digit, the last digit first.
use Rattle.std.specs.Prelude.{ℕ, ◌+◌, ◌*◌, ◌/◌, ◌%◌, ◌<◌, List, [], ◌∷◌}

abbrev pub value_of : List ℕ → ℕ
value_of [] = 0
value_of (c ∷ cs) = c + 10 * value_of cs

abbrev pub AreCells : List ℕ → Type 0
AreCells [] = Unit {0}
AreCells (c ∷ cs) = (c < 10) × AreCells cs

-- the cells times the factor, with a carry from below
abbrev pub scaled : ℕ → ℕ → List ℕ → List ℕ
scaled factor carry [] = []
scaled factor carry (c ∷ cs) = (c * factor + carry) % 10 ∷ scaled factor ((c * factor + carry) / 10) cs
