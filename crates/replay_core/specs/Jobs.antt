-- What the entries of jobs are.
use Rattle.std.specs.Prelude.{ℕ, ◌≡◌, ◌+◌, ◌<◌, ◌≤◌, ◌⊎◌, List, [], ◌∷◌, ◌++◌, length}
use Rattle.cluster.specs.declared.entry.Entry.{Entry}
use Rattle.commands.specs.declared.command.Command.{Command}
use Rattle.commands.specs.declared.given.Given.{Given}
use Rattle.histories.specs.JobRuns.{Run, JobBegun, JobRun}
use Rattle.replay_core.specs.Forms.{members, width}

-- each of the entries is of one of so many jobs, which are numbered on from n
unfoldable pub AllOwn : ℕ → ℕ → List Entry → Type 0
AllOwn n count [] = Unit {0}
AllOwn n count (e ∷ es) = (n < e.job) × (e.job ≤ n + count) × AllOwn n count es

-- the run of a job that begins after these entries
abbrev pub run_after : ℕ → Command → ℕ → List Entry → Run
run_after job command budget before = record { job = job; command = command; from = length before; budget = budget }

-- each of the commands was run whole, as a job numbered on from n that begins after these entries
unfoldable pub AllRun : ℕ → ℕ → List Entry → List Command → List Entry → Type 0
AllRun budget n before [] h = Unit {0}
AllRun budget n before (c ∷ cs) h = JobRun (run_after (n + 1) c budget before) h × AllRun budget (n + 1) before cs h

-- each was run whole, or a part of its run is there
unfoldable pub AllBegun : ℕ → ℕ → List Entry → List Command → List Entry → Type 0
AllBegun budget n before [] h = Unit {0}
AllBegun budget n before (c ∷ cs) h =
    (JobRun (run_after (n + 1) c budget before) h ⊎ JobBegun (run_after (n + 1) c budget before) h) × AllBegun budget (n + 1) before cs h

-- of one of them a part of its run is there, and it isn't ended
unfoldable pub SomeBegun : ℕ → ℕ → List Entry → List Command → List Entry → Type 0
SomeBegun budget n before [] h = ⊥
SomeBegun budget n before (c ∷ cs) h = JobBegun (run_after (n + 1) c budget before) h ⊎ SomeBegun budget (n + 1) before cs h

-- What is asked for is commands, each of which is a job, numbered on from n. The entries after those before it are all
-- of these jobs, however they interleave, and hold each job's whole run of its command. A command of the kubelet has no
-- job, so no entries.
pub record SegmentRun (n : ℕ) (g : Given) (budget : ℕ) (before segment : List Entry) : Type 0 where
  pub own : AllOwn n (length (members g)) segment
  pub run : AllRun budget n before (members g) (before ++ segment)

-- the same, but of each job they hold its whole run or a part of it, and one of them isn't ended
pub record SegmentBegun (n : ℕ) (g : Given) (budget : ℕ) (before segment : List Entry) : Type 0 where
  pub own : AllOwn n (length (members g)) segment
  pub each : AllBegun budget n before (members g) (before ++ segment)
  pub some : SomeBegun budget n before (members g) (before ++ segment)

-- the jobs of the commands, numbered on from n, lead from one history to the next
unfoldable pub RunFrom : ℕ → ℕ → List Entry → List Given → List Entry → Type 0
RunFrom budget n before [] after = after ≡ before
RunFrom budget n before (g ∷ gs) after =
    (segment : List Entry) × SegmentRun n g budget before segment × RunFrom budget (n + width g) (before ++ segment) gs after

-- the history is the run of the commands
unfoldable pub RunOf : ℕ → List Given → List Entry → Type 0
RunOf budget gs h = RunFrom budget 0 [] gs h
