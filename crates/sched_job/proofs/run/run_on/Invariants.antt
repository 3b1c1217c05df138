use Rattle.std.proofs.Common.{length}
use Rattle.turn_lock.specs.Known.{IsOf}
use Rattle.sched_job.specs.Going.{Going}
use Rattle.sched_job.specs.Noted.{AreSince}
use Rattle.sched_job.specs.Steps.{run_of}
use Rattle.sched_job.proofs.run.run_on.Given as goal

abbrev pub invariant-loop : goal.invariant-loop
invariant-loop g l = IsOf l.lock l.pass × Going (run_of (length l.fn.pass.front) l.budget l.fn.work) l.fn.pass l.pass l.work × AreSince l.pass.front l.notes
