-- The part of each job in what several did.
use Rattle.std.specs.Prelude.{ℕ, ◌≤◌, List, [], ◌∷◌, ◌++◌}
use mathlib.Core.List.{IsPrefix}
use Rattle.cluster.specs.declared.entry.Entry.{Entry}
use Rattle.sched_job.specs.declared.run.JobEnd.{JobEnd}
use Rattle.sched_job.specs.declared.work.Work.{Work}
use Rattle.sched_job.specs.Going.{EndsBy}
use Rattle.sched_job.specs.Owned.{AllMade}
use Rattle.histories.specs.JobRuns.{Run}
use Rattle.sched_job.specs.Steps.{run_of}

-- a job's work, how many entries its pass had seen when it began, the indices of its entries, what its pass
-- had seen when it ended, and how it ended
pub record Part : Type 0 where
  pub work : Work
  pub from : ℕ
  pub added : List ℕ
  pub front : List Entry
  pub end : JobEnd

abbrev pub run_in : ℕ → Part → Run
run_in budget p = run_of p.from budget p.work

-- it made these entries, and so it ended, in what became this history
pub record PartDid (budget number base : ℕ) (h : List Entry) (p : Part) : Type 0 where
  pub from : base ≤ p.from
  pub made : AllMade (run_in budget p) p.front 0 p.added
  pub begins : IsPrefix p.front h
  pub ends : EndsBy (run_in budget p) p.front p.added number p.end

abbrev pub AllDid : ℕ → ℕ → ℕ → List Entry → List Part → Type 0
AllDid budget number base h [] = Unit {0}
AllDid budget number base h (p ∷ ps) = PartDid budget number base h p × AllDid budget number base h ps

abbrev pub added_of : List Part → List ℕ
added_of [] = []
added_of (p ∷ ps) = p.added ++ added_of ps

abbrev pub works_of : List Part → List Work
works_of [] = []
works_of (p ∷ ps) = p.work ∷ works_of ps

abbrev pub ends_of : List Part → List JobEnd
ends_of [] = []
ends_of (p ∷ ps) = p.end ∷ ends_of ps
