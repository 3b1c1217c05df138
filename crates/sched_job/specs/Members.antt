-- What a job of several needs of its pass, and what holds once it ran.
use Rattle.std.specs.Prelude.{ℕ, ◌≡◌, ◌<◌, length}
use Rattle.cluster.specs.declared.entry.Entry.{Entry}
use Rattle.turn_lock.specs.Known.{IsFree, IsOf, Known, Opened}
use Rattle.sched_job.specs.declared.run.JobEnd.{JobEnd}
use Rattle.sched_job.specs.declared.work.Stage.TheVariants.{Ready}
use Rattle.sched_job.specs.declared.work.Work.{Work}
use Rattle.sched_job.specs.Going.{Worked}
use Rattle.histories.specs.JobRuns.{attempts_of}
use Rattle.sched_job.specs.Steps.{run_of}

-- the job can begin with this pass
pub record Needs (lock : Opened Entry) (work : Work) (p : Known Entry) : Type 0 where
  pub of : IsOf lock p
  pub free : IsFree p
  pub ready : work.stage ≡ Ready
  pub some : 0 < attempts_of work.command

-- the job ended so, and left this pass
pub record Gives (lock : Opened Entry) (work : Work) (budget : ℕ) (p : Known Entry) (end : JobEnd) (q : Known Entry) : Type 0 where
  pub of : IsOf lock q
  pub free : IsFree q
  pub worked : Worked (run_of (length p.front) budget work) p q end
