use Rattle.histories.proofs.Headlines.{verdict_at}
use Rattle.histories.proofs.headline.verdicts_are_true.Goals as goal

pub returns : goal.returns
returns c = verdict_at c.budget_is_true.ensures.more c.budget_is_true.ensures.parts
