-- What a call makes of a claim: its result, the table after it, and what it asks of the driver.
use Rattle.std.specs.Prelude.{◌≡◌, ◌⊎◌, ℕ, Bool, false, true, nat_le, List, [], ◌∷◌, ◌++◌, length, Option, Result, Ok, Err, if◌then◌else◌}
use Rattle.std.specs.Option.{option_map}
use Rattle.ckpt_journal.specs.Plan.{is_full}
use Rattle.ckpt_journal.specs.Table.{row_after}
use Rattle.ckpt_journal.specs.declared.record.Record.{Record}
use Rattle.ckpt_journal.specs.declared.record.Row.{Row}
use Rattle.prepare_core.specs.Calls.{call}
use Rattle.prepare_core.specs.declared.claim.ClaimForNode.{ClaimForNode}
use Rattle.prepare_core.specs.declared.driver.CallKind.{CallKind}
use Rattle.prepare_core.specs.declared.driver.DriverCall.{DriverCall}
use Rattle.prepare_core.specs.declared.error.KubeletError.{KubeletError}
use Rattle.prepare_core.specs.declared.error.KubeletError.TheVariants.{Closed, DriverFault, DiskFault, Full, Memory, NotAJournal}

pub record Run (A : Type 0) : Type 0 where
  pub result : Result A KubeletError
  pub rows : List Row
  pub calls : List DriverCall

-- nothing more is done
abbrev pub ended : {A : Type 0} → Result A KubeletError → List Row → Run A
ended r rows = record { result = r; rows = rows; calls = [] }

abbrev pub done : {A : Type 0} → A → List Row → Run A
done x rows = ended (Ok x) rows

abbrev pub refused : {A : Type 0} → KubeletError → List Row → Run A
refused e rows = ended (Err e) rows

-- a record is added, if it fits, and then the call goes on
abbrev pub recording : {A : Type 0} → ℕ → List Row → Record → (List Row → Run A) → Run A
recording half rows item next = if is_full half rows item then refused Full rows else next (row_after rows item)

-- one call more, which returned Ok or failed
abbrev pub called : CallKind → ClaimForNode → Bool → List DriverCall → List DriverCall
called kind claim ok before = before ++ call kind claim ok ∷ []

-- the driver is asked, and if it returns Ok the call goes on
abbrev pub asking : {A : Type 0} → DriverCall → List Row → Run A → Run A
asking c rows next = record { result = if c.ok then next.result else Err DriverFault; rows = if c.ok then next.rows else rows; calls = c ∷ (if c.ok then next.calls else []) }

-- a table that takes no further claim
abbrev pub is_crowded : List Row → Bool
is_crowded rows = nat_le 1024 (length rows)

-- the result, the table and the driver's calls are those of a run
pub record IsRun {A : Type 0} (run : Run A) (r : Result A KubeletError) (table : List Row) (old new : Option (List DriverCall)) : Type 0 where
  pub result : run.result ≡ r
  pub rows : run.rows ≡ table
  pub calls : new ≡ option_map (λ before. before ++ run.calls) old

-- What was done is what the rule says, which may depend on whether the driver returns Ok. Memory may run out, and the
-- disk may fail, at any time.
abbrev pub Follows : {A : Type 0} → (Bool → Run A) → Result A KubeletError → List Row → Option (List DriverCall) → Option (List DriverCall) → Type 0
Follows run (Ok x) rows old new = IsRun (run true) (Ok x) rows old new
Follows run (Err Memory) rows old new = Unit {0}
Follows run (Err DiskFault) rows old new = Unit {0}
Follows run (Err DriverFault) rows old new = IsRun (run false) (Err DriverFault) rows old new
Follows run (Err e) rows old new = IsRun (run true) (Err e) rows old new

-- errors of adding a record
abbrev pub IsOfRecord : KubeletError → Type 0
IsOfRecord DiskFault = Unit {0}
IsOfRecord Full = Unit {0}
IsOfRecord Memory = Unit {0}
IsOfRecord e = ⊥

abbrev pub IsOfJournal : KubeletError → Type 0
IsOfJournal Closed = Unit {0}
IsOfJournal e = IsOfRecord e

-- errors of opening a checkpoint
abbrev pub IsOfOpening : KubeletError → Type 0
IsOfOpening DiskFault = Unit {0}
IsOfOpening Memory = Unit {0}
IsOfOpening (NotAJournal at) = Unit {0}
IsOfOpening e = ⊥

-- the driver got no call, or, if the rule asks it, one of this kind for this claim
abbrev pub AskedAtMost : Bool → CallKind → ClaimForNode → Option (List DriverCall) → Option (List DriverCall) → Type 0
AskedAtMost false kind claim old new = new ≡ old
AskedAtMost true kind claim old new = (new ≡ old) ⊎ ((ok : Bool) × (new ≡ option_map (called kind claim ok) old))
