use Rattle.histories.proofs.Headlines.{step_at, prefix_legal}
use Rattle.histories.proofs.headline.legal_steps.Goals as goal

pub returns-clause-step : goal.returns-clause-step
returns-clause-step c = step_at

pub returns-clause-prefix : goal.returns-clause-prefix
returns-clause-prefix c = prefix_legal
