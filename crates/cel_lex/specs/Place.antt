use Rattle.std.specs.Prelude.{ℕ, List, Bool}

-- a source, how far it is read, whether an operand is expected there, and whether an error was found
pub record Place : Type 0 where
  pub source : List ℕ
  pub at : ℕ
  pub due : Bool
  pub failed : Bool
