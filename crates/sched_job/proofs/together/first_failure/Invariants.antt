use Rattle.sched_job.proofs.Failing.{FailsSo}
use Rattle.sched_job.proofs.together.first_failure.Given as goal

abbrev pub invariant-loop-end : goal.invariant-loop-end
invariant-loop-end l = FailsSo l.ends l.end-index l.failure
