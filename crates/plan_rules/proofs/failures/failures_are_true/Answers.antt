use Rattle.plan_rules.proofs.Saying.{plan_says, status_says}
use Rattle.plan_rules.proofs.failures.failures_are_true.Goals as goal

pub returns-clause-plan : goal.returns-clause-plan
returns-clause-plan c = λ s pod plan f e. plan_says c.faults_are_first.ensures.first c.tolerations_are_by_facts.ensures.only_all c.results_keep_constraint.ensures.agreed s pod plan f e

pub returns-clause-status : goal.returns-clause-status
returns-clause-status c = λ s claim status k f e g. status_says c.faults_are_first.ensures.first c.tolerations_are_by_facts.ensures.only_all c.results_keep_constraint.ensures.agreed s claim status k f e g
