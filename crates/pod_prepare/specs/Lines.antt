-- What is said of what the kubelet made of one claim, and which errors end a command with nothing said.
use Rattle.std.specs.Prelude.{ℕ, ◌≡◌, ◌⊎◌, Bool, List, Result, Ok, Err, is_ok}
use Rattle.journal_text.specs.Journal.{kubelet_line}
use Rattle.prepare_core.specs.declared.error.KubeletError.{KubeletError}
use Rattle.prepare_core.specs.declared.error.KubeletError.TheVariants.{NotAllocated, NotReserved, OtherNode, DriverFault, DiskFault, Full, Closed, NotPrepared, Memory, NotAJournal}

-- the error ends a command, with nothing said
abbrev pub EndsCommand : KubeletError → Type 0
EndsCommand DiskFault = Unit {0}
EndsCommand Memory = Unit {0}
EndsCommand e = ⊥

-- the outcome is one that is told, and this is its line; the command goes on if it is a success
pub record IsLineOf {A : Type 0} (job : ℕ) (words : Result A KubeletError → List ℕ) (outcome : Result A KubeletError) (text : List ℕ) (goes : Bool) : Type 0 where
  pub told : (why : KubeletError) → outcome ≡ Err why → EndsCommand why → ⊥
  pub line : text ≡ kubelet_line job (words outcome)
  pub on : goes ≡ is_ok outcome

-- the command ended by this error: it is the outcome, or memory ran out
abbrev pub EndedBy : {A : Type 0} → Result A KubeletError → KubeletError → Type 0
EndedBy outcome e = ((outcome ≡ Err e) × EndsCommand e) ⊎ (e ≡ Memory)
