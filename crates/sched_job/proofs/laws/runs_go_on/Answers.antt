use Rattle.sched_job.proofs.Runnings.{begun_other, run_other, running_other}
use Rattle.sched_job.proofs.laws.runs_go_on.Goals as goal

pub returns-clause-running : goal.returns-clause-running
returns-clause-running c = running_other c.histories_grow.ensures.job_state

pub returns-clause-run : goal.returns-clause-run
returns-clause-run c = run_other c.histories_grow.ensures.job_state

pub returns-clause-begun : goal.returns-clause-begun
returns-clause-begun c = begun_other c.histories_grow.ensures.job_state
