use Rattle.plan_rules.proofs.VerdictGiven.{plan_allocates, status_allocates}
use Rattle.plan_rules.proofs.failures.checked_is_allocation.Goals as goal

pub returns-clause-plan : goal.returns-clause-plan
returns-clause-plan c = λ s pod plan p e f. plan_allocates c.results_keep_constraint.ensures.kept c.tolerations_are_by_facts.ensures.all_fit s pod plan p e f

pub returns-clause-status : goal.returns-clause-status
returns-clause-status c = λ s claim status k e f. status_allocates c.results_keep_constraint.ensures.kept c.tolerations_are_by_facts.ensures.all_fit s claim status k e f
