use Rattle.sched_job.proofs.Failing.{ended_next, full_next}
use Rattle.sched_job.proofs.together.first_failure.Goals.{in-Ended, in-Full}
use Rattle.sched_job.proofs.together.first_failure.Goals as goal

pub loop-end-preserved : goal.loop-end-preserved
loop-end-preserved c =
    elim c.match-end.branch [
      | in-Ended w ↦ ended_next _ _ _ _ _ _ c.loop-end-test.true w.in-Ended.is w.failure-is c.loop-end.invariant
      | in-Full w ↦ full_next _ _ _ _ _ c.loop-end-test.true w.in-Full.is w.failure-is
    ]
