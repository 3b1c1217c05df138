-- What doing commands as jobs does to a ledger.
use Rattle.std.specs.Prelude.{ℕ, ◌≡◌, ◌+◌, ◌≤◌, List, [], ◌∷◌, ◌++◌, length}
use Rattle.cluster.specs.declared.entry.Entry.{Entry}
use Rattle.commands.specs.declared.command.Command.{Command}
use Rattle.commands.specs.declared.given.Given.{Given}
use Rattle.sched_job.specs.Ledgers.{History}
use Rattle.sched_job.specs.declared.work.Stage.TheVariants.{Ready}
use Rattle.sched_job.specs.declared.work.Work.{Work}
use Rattle.replay_core.specs.Jobs.{SegmentRun, SegmentBegun}

-- the works of jobs that haven't begun, numbered on from n
abbrev pub works_from : ℕ → List Command → List Work
works_from n [] = []
works_from n (c ∷ cs) = record { job = n + 1; command = c; stage = Ready } ∷ works_from (n + 1) cs

-- the jobs, numbered on from n, were run whole
pub record Ran (n : ℕ) (g : Given) (budget : ℕ) (old new : History) : Type 0 where
  pub segment : List Entry
  pub is : new ≡ record old { entries = old.entries ++ segment }
  pub run : SegmentRun n g budget old.entries segment

-- each job was run whole or begun, and one reached the limit of the history
pub record Met (n : ℕ) (g : Given) (budget : ℕ) (old new : History) (count : ℕ) : Type 0 where
  pub segment : List Entry
  pub is : new ≡ record old { entries = old.entries ++ segment }
  pub begun : SegmentBegun n g budget old.entries segment
  pub count_is : length new.entries ≡ count
  pub full : new.limit ≤ count
