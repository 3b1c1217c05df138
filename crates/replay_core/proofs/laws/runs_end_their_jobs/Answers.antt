use Rattle.replay_core.proofs.Settling.{part_open, run_settled}
use Rattle.replay_core.proofs.laws.runs_end_their_jobs.Goals as goal

pub returns-clause-run : goal.returns-clause-run
returns-clause-run c = run_settled c.histories_grow.ensures.start c.histories_grow.ensures.job_state

pub returns-clause-part : goal.returns-clause-part
returns-clause-part c = part_open
