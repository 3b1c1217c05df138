-- What a worker remembers of nodes, between its turns.
use Rattle.std.proofs.Common.{ℕ, ◌≡◌, ◌∙◌, List, [], ◌++◌, Bool, true, false, cond, Option, None, Some, Result, Ok, Err, OnOk, refl, sym, ap, subst, append_assoc, append-nil}
use mathlib.Core.List.{IsPrefix}
use Rattle.cluster.specs.declared.entry.Entry.{Entry}
use Rattle.cluster.specs.declared.entry.Event.{Event}
use Rattle.cluster.specs.declared.entry.JobState.{JobState}
use Rattle.cluster.specs.History.{job_state_of}
use Rattle.allocations.specs.Lacking.{Dates}
use Rattle.histories.specs.Growth.{AreDatesOf}
use Rattle.histories.specs.Legal.{Legal}
use Rattle.node_memo.specs.Memo.{NodesFields}
use Rattle.ledger_core.specs.declared.error.LedgerError.{LedgerError}
use Rattle.ledger_core.specs.Ledger.{History}
use Rattle.ledger_core.specs.Remembered.{IsTrueOf}
use Rattle.ledger_core.specs.Snapshot.{Seen as Snapshot}
use Rattle.commands.specs.declared.command.Command.{Command}
use Rattle.commands.specs.declared.command.Command.TheVariants.{Apply, Invalid, Delete, Schedule, Release, Adopt}
use Rattle.sched_job.specs.declared.notes.Notes.{Notes}
use Rattle.sched_job.specs.declared.work.Next.{Next}
use Rattle.sched_job.specs.declared.work.Stage.{Stage}
use Rattle.sched_job.specs.declared.work.Stage.TheVariants.{Ready, Seen, Chosen}
use Rattle.sched_job.specs.declared.work.Work.{Work}
use Rattle.sched_job.specs.Moves.{looked, moved, move_of, stage_after, stage_by, tries}
use Rattle.sched_job.specs.Noted.{AreNotesOf, AreOf, AreSince, MaySearch, MayThink}
use Rattle.sched_job.specs.Steps.{IsNow, IsPresent}

-- ---- notes of a beginning of the history

pub since_now : (h : List Entry) (notes : Option Notes) → AreNotesOf h notes → AreSince h notes
since_now h notes are = record { before = h; more = []; is = sym (append-nil h); those = are }

pub since_longer : (h later : List Entry) (notes : Option Notes) → IsPrefix h later → AreSince h notes → AreSince later notes
since_longer h later notes longer since = record {
  before = since.before;
  more = since.more ++ longer.0;
  is = sym longer.1 ∙ ap (λ (xs : List Entry). xs ++ longer.0) since.is ∙ append_assoc since.before since.more longer.0;
  those = since.those;
}

abbrev pub KnownLaw : Type 0
KnownLaw = (h more : List Entry) (d : Dates) (rows : List NodesFields) → Legal (h ++ more) → AreDatesOf h d → IsTrueOf h rows → IsTrueOf (h ++ more) rows

known_by : KnownLaw → (before more : List Entry) (notes : Option Notes) (found : Notes) → notes ≡ Some found → Legal (before ++ more) → AreNotesOf before notes → IsTrueOf (before ++ more) found.memo
known_by law before more notes found is legal are =
    let those : AreOf before found = subst (AreNotesOf before) is are in
    law before more found.dates found.memo legal those.dated those.known

-- what was known then is true now
pub known_since : KnownLaw → (h : List Entry) (notes : Option Notes) (found : Notes) → notes ≡ Some found → Legal h → AreSince h notes → IsTrueOf h found.memo
known_since law h notes found is legal since =
    subst (λ (xs : List Entry). IsTrueOf xs found.memo) (sym since.is) (known_by law since.before since.more notes found is (subst Legal since.is legal) since.those)

-- ---- a search that is next

search_of : (h : List Entry) (seen : Snapshot) (notes : Option Notes) → IsNow h seen → AreNotesOf h notes → MaySearch seen notes
search_of h seen None now are = tt
search_of h seen (Some found) now are = record { history = h; now = now; those = are }

pub may_think : (h : List Entry) (stage : Stage) (notes : Option Notes) → IsPresent h stage → AreNotesOf h notes → MayThink stage notes
may_think h Ready notes present are = tt
may_think h (Seen seen) notes present are = search_of h seen notes present are
may_think h (Chosen choice) notes present are = tt

looks : (h : List Entry) (b : Bool) → IsPresent h (cond b (looked h) Ready)
looks h true = record { at = refl; state = refl }
looks h false = tt

stage_present : (H : History) (job : ℕ) (st : JobState) (c : Command) (o : Option Event) → IsPresent (moved H job o).entries (stage_by H.entries st c o)
stage_present H job st (Apply object mode) o = tt
stage_present H job st (Invalid error) o = tt
stage_present H job st (Delete target) o = tt
stage_present H job st (Schedule pod attempts) None = looks H.entries (tries attempts st)
stage_present H job st (Schedule pod attempts) (Some event) = tt
stage_present H job st (Release pod) o = tt
stage_present H job st (Adopt claim status) o = tt

-- a snapshot that a turn took is of the state after it
pub present_after : (H H' : History) (w : Work) (stage : Stage) → H' ≡ moved H w.job (move_of H.entries w) → stage ≡ stage_after H.entries w → IsPresent H'.entries stage
present_after H H' w stage now is =
    subst (λ (x : History). IsPresent x.entries stage) (sym now)
    (subst (IsPresent (moved H w.job (move_of H.entries w)).entries) (sym is) (stage_present H w.job (job_state_of H.entries w.job) w.command (move_of H.entries w)))

pub present_ok : (r : Result Next LedgerError) (H H' : History) (w : Work) (stage : Stage) → OnOk r (H' ≡ moved H w.job (move_of H.entries w)) → OnOk r (stage ≡ stage_after H.entries w) → OnOk r (IsPresent H'.entries stage)
present_ok (Ok next) H H' w stage now is = present_after H H' w stage now is
present_ok (Err error) H H' w stage now is = tt

pub present_when : (r : Result Next LedgerError) (next : Next) (h : List Entry) (stage : Stage) → r ≡ Ok next → OnOk r (IsPresent h stage) → IsPresent h stage
present_when (Ok made) next h stage is present = present
present_when (Err error) next h stage is present = absurd cc
