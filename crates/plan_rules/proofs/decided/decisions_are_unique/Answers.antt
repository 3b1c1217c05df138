use Rattle.plan_rules.proofs.Unique.{plan_or_verdict, plans_same, verdicts_same}
use Rattle.plan_rules.proofs.decided.decisions_are_unique.Goals as goal

pub returns-clause-plans : goal.returns-clause-plans
returns-clause-plans c = plans_same

pub returns-clause-verdicts : goal.returns-clause-verdicts
returns-clause-verdicts c = verdicts_same

pub returns-clause-apart : goal.returns-clause-apart
returns-clause-apart c = plan_or_verdict
