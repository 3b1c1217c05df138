-- What several jobs do together.
use Rattle.std.specs.Prelude.{ℕ, ◌≡◌, ◌⊎◌, true, false, List, [], ◌∷◌, length}
use Rattle.cluster.specs.declared.entry.Entry.{Entry}
use Rattle.cluster.specs.History.{job_state_of}
use Rattle.sched_job.specs.Ledgers.{History}
use Rattle.histories.specs.Legal.{Legal}
use Rattle.turn_lock.specs.Known.{Known, Opened}
use Rattle.turn_lock.specs.Places.{times}
use Rattle.sched_job.specs.declared.run.JobEnd.{JobEnd}
use Rattle.sched_job.specs.declared.run.JobEnd.TheVariants as job_end
use Rattle.sched_job.specs.declared.work.Work.{Work}
use Rattle.histories.specs.JobRuns.{is_ended}
use Rattle.sched_job.specs.Steps.{AllEnds, Extends, jobs_of}
use Rattle.sched_job.specs.Parts.{AllDid, Part, added_of, ends_of, works_of}

-- the work is one of these
abbrev pub In : Work → List Work → Type 0
In w [] = ⊥
In w (v ∷ vs) = (w ≡ v) ⊎ In w vs

-- the same works in some order, each job as often
pub record SameWorks (vs ws : List Work) : Type 0 where
  pub there : (w : Work) → In w ws → In w vs
  pub back : (w : Work) → In w vs → In w ws
  pub often : (job : ℕ) → times job (jobs_of vs) ≡ times job (jobs_of ws)

-- what the jobs of the works made with passes that were joined into one
pub record DidAll (lock : Opened Entry) (budget : ℕ) (works : List Work) (ends : List JobEnd) (whole : Known Entry) : Type 0 where
  pub parts : List Part
  pub did : AllDid budget lock.number (length lock.opening) whole.front parts
  pub own : whole.own ≡ added_of parts
  pub works_are : SameWorks (works_of parts) works
  pub ends_are : ends_of parts ≡ ends

-- each job has ended
abbrev pub AllEnded : List Entry → List Work → Type 0
AllEnded h [] = Unit {0}
AllEnded h (w ∷ ws) = (is_ended (job_state_of h w.job) ≡ true) × AllEnded h ws

-- some job hasn't
abbrev pub SomeOpen : List Entry → List Work → Type 0
SomeOpen h [] = ⊥
SomeOpen h (w ∷ ws) = (is_ended (job_state_of h w.job) ≡ false) ⊎ SomeOpen h ws

-- The history is the old one, followed by entries of these jobs. Each job that has ended was run to its end, and each
-- other one was begun, from the old history's length on.
pub record RanTogether (budget : ℕ) (works : List Work) (old new : History) : Type 0 where
  pub extends : Extends (jobs_of works) old.entries new.entries
  pub limit : new.limit ≡ old.limit
  pub legal : Legal new.entries
  pub ends : AllEnds (length old.entries) budget new.entries works

-- each of the jobs ended
abbrev pub IsDone : JobEnd → Type 0
IsDone (job_end.Ended index) = Unit {0}
IsDone (job_end.Full n) = ⊥
IsDone job_end.Memory = ⊥

abbrev pub AllDone : List JobEnd → Type 0
AllDone [] = Unit {0}
AllDone (x ∷ xs) = IsDone x × AllDone xs

-- one of them met the limit
abbrev pub SomeFull : ℕ → List JobEnd → Type 0
SomeFull n [] = ⊥
SomeFull n (x ∷ xs) = (x ≡ job_end.Full n) ⊎ SomeFull n xs
