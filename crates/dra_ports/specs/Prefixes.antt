-- What is left and what is written after a call that stopped on its way.
use Rattle.std.specs.Prelude.{ℕ, List, Option, take}
use Rattle.std.specs.Io.KnownBytes.{Consumes, Appends}

-- what is left lost a prefix, which may be empty
abbrev pub ConsumesPrefix : Option (List ℕ) → Option (List ℕ) → Type 0
ConsumesPrefix old new = (bs : List ℕ) × Consumes old new bs

-- what is written grew by a prefix of these bytes, which may be empty
abbrev pub AppendsPrefix : Option (List ℕ) → Option (List ℕ) → List ℕ → Type 0
AppendsPrefix old new bs = (n : ℕ) × Appends old new (take n bs)
