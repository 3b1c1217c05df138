use Rattle.histories.proofs.Histories.{job_state_of-empty, job_state_of-more, state_of-more}
use Rattle.histories.proofs.growing.histories_grow.Goals as goal

pub returns-clause-state : goal.returns-clause-state
returns-clause-state c = state_of-more

pub returns-clause-job_state : goal.returns-clause-job_state
returns-clause-job_state c = job_state_of-more

pub returns-clause-start : goal.returns-clause-start
returns-clause-start c = job_state_of-empty
