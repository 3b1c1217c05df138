use Rattle.replay_core.proofs.Numbers.{begun_by, begun_own, run_by, run_own}
use Rattle.replay_core.proofs.decided.runs_are_numbered.Goals as goal

pub returns-clause-by_commands : goal.returns-clause-by_commands
returns-clause-by_commands c = run_by

pub returns-clause-jobs : goal.returns-clause-jobs
returns-clause-jobs c = run_own

pub returns-clause-part : goal.returns-clause-part
returns-clause-part c = begun_by

pub returns-clause-part_jobs : goal.returns-clause-part_jobs
returns-clause-part_jobs c = begun_own
