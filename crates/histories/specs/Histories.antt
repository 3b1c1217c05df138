-- What is said of each entry of a history with the entries before it, and a job's last entry.
use Rattle.std.specs.Prelude.{ℕ, ◌==◌, List, [], ◌∷◌, ◌++◌, if◌then◌else◌}
use Rattle.cluster.specs.declared.entry.Entry.{Entry}
use Rattle.cluster.specs.History.{told}

-- the fact holds of each of es with the entries before it
unfoldable pub Each : (List Entry → Entry → Type 0) → List Entry → List Entry → Type 0
Each P before [] = Unit {0}
Each P before (e ∷ es) = P before e × Each P (before ++ e ∷ []) es

abbrev pub next_last : ℕ → ℕ → ℕ → Entry → ℕ
next_last job last index e = if e.job == job then index else last

-- the index of the job's last entry, or 0
unfoldable pub last_place : List Entry → ℕ → ℕ
last_place h job = told (next_last job) 0 0 h
