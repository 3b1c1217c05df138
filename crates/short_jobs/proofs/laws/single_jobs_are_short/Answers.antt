use Rattle.short_jobs.proofs.Jobs.{single_is_short}
use Rattle.short_jobs.proofs.laws.single_jobs_are_short.Goals as goal

pub returns : goal.returns
returns c = single_is_short (record { state = c.histories_grow.ensures.state; job_state = c.histories_grow.ensures.job_state })
