use Rattle.std.proofs.Common.{◌≡◌, drop, nat_eq}
use Rattle.std.specs.List.{list_any}
use Rattle.sched_job.specs.Steps.{jobs_of}
use Rattle.job_cases.proofs.fresh.has_job.Given as goal

abbrev pub invariant-loop-work : goal.invariant-loop-work
invariant-loop-work l = list_any (nat_eq l.job) (jobs_of (drop l.work-index l.works)) ≡ list_any (nat_eq l.job) (jobs_of l.works)
