-- What contracts see of a splitter.
use Rattle.std.specs.Prelude.{ℕ, List, Option}
use Rattle.std.specs.Io.KnownBytes.{prepend_known}

-- how many bytes it has consumed, and those after them that it has read from its source
pub record Split : Type 0 where
  pub at : ℕ
  pub ahead : List ℕ

-- what remains: the bytes that were read and not consumed, and those that the source has left
abbrev pub remaining : Split → Option (List ℕ) → Option (List ℕ)
remaining split left = prepend_known split.ahead left
