use Rattle.plan_rules.proofs.VerdictGiven.{plan_fits}
use Rattle.plan_rules.proofs.failures.checked_is_known.Goals as goal

pub returns : goal.returns
returns c = λ s pod plan e. plan_fits s pod plan e
