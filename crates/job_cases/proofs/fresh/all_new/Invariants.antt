use Rattle.std.proofs.Common.{drop}
use Rattle.sched_job.specs.Steps.{AllNew}
use Rattle.job_cases.proofs.fresh.all_new.Given as goal

abbrev pub invariant-loop-work : goal.invariant-loop-work
invariant-loop-work l = AllNew l.ledger.entries (drop l.work-index l.works) → AllNew l.ledger.entries l.works
