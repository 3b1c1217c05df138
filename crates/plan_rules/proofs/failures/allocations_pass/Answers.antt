use Rattle.plan_rules.proofs.Accepting.{plan_passes, status_passes}
use Rattle.plan_rules.proofs.failures.allocations_pass.Goals as goal

pub returns-clause-plan : goal.returns-clause-plan
returns-clause-plan c = λ s pod plan p choice keep f a. plan_passes c.results_keep_constraint.ensures.agreed c.tolerations_are_by_facts.ensures.only_all c.devices_of_a_view_differ.ensures.ids s pod plan p choice keep f a

pub returns-clause-status : goal.returns-clause-status
returns-clause-status c = λ s claim status k choice keep e a. status_passes c.results_keep_constraint.ensures.agreed c.tolerations_are_by_facts.ensures.only_all c.devices_of_a_view_differ.ensures.ids s claim status k choice keep e a
