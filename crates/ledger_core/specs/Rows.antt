-- What is kept beside the rows of jobs, by which most look-ups need no search.
use Rattle.std.specs.Prelude.{ℕ, ◌≡◌, ◌<◌, List, Option, None, Some, IfSome}
use Rattle.cluster.specs.declared.entry.JobState.{JobState}
use Rattle.ledger_core.specs.declared.room.Row.{Row}
use Rattle.ledger_core.specs.Ledger.{at}

-- no job above the number has a row
abbrev pub AreBelow : List (ℕ × JobState) → ℕ → Type 0
AreBelow rows most = (j : ℕ) → most < j → at rows j ≡ None

-- it is a row, if it is there
abbrev pub IsLast : List (ℕ × JobState) → Option Row → Type 0
IsLast rows last = IfSome last (λ r. at rows r.job ≡ Some r.state)
