-- What a worker remembers of nodes while it searches.
use Rattle.std.specs.Prelude.{◌≡◌, ◌++◌, List, Option, None, Some}
use Rattle.cluster.specs.declared.entry.Entry.{Entry}
use Rattle.histories.specs.Growth.{AreDatesOf}
use Rattle.ledger_core.specs.Remembered.{IsTrueOf}
use Rattle.ledger_core.specs.Snapshot.{Seen as Snapshot}
use Rattle.sched_job.specs.declared.notes.Notes.{Notes}
use Rattle.sched_job.specs.declared.work.Stage.{Stage}
use Rattle.sched_job.specs.declared.work.Stage.TheVariants.{Ready, Seen, Chosen}
use Rattle.sched_job.specs.Steps.{IsNow}

-- the dates are those of the history, and what is remembered is true of it
pub record AreOf (h : List Entry) (notes : Notes) : Type 0 where
  pub dated : AreDatesOf h notes.dates
  pub known : IsTrueOf h notes.memo

-- so are the notes, if there are any
abbrev pub AreNotesOf : List Entry → Option Notes → Type 0
AreNotesOf h None = Unit {0}
AreNotesOf h (Some notes) = AreOf h notes

-- they are notes of a beginning of the history
pub record AreSince (h : List Entry) (notes : Option Notes) : Type 0 where
  pub before : List Entry
  pub more : List Entry
  pub is : h ≡ before ++ more
  pub those : AreNotesOf before notes

-- the notes are of a history after which the state is the snapshot's
pub record AreOfSeen (seen : Snapshot) (notes : Notes) : Type 0 where
  pub history : List Entry
  pub now : IsNow history seen
  pub those : AreOf history notes

abbrev pub MaySearch : Snapshot → Option Notes → Type 0
MaySearch seen None = Unit {0}
MaySearch seen (Some notes) = AreOfSeen seen notes

-- so are they, if a search is next
abbrev pub MayThink : Stage → Option Notes → Type 0
MayThink Ready notes = Unit {0}
MayThink (Seen seen) notes = MaySearch seen notes
MayThink (Chosen choice) notes = Unit {0}
