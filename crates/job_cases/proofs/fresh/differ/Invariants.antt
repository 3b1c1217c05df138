use Rattle.std.proofs.Common.{drop}
use Rattle.sched_job.specs.Steps.{Differ, jobs_of}
use Rattle.job_cases.proofs.fresh.differ.Given as goal

abbrev pub invariant-loop-at : goal.invariant-loop-at
invariant-loop-at l = Differ (jobs_of (drop l.at l.works)) → Differ (jobs_of l.works)
