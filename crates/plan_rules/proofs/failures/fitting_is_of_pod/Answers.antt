use Rattle.plan_rules.proofs.Knowing.{is_of_pod, of_pod_fits}
use Rattle.plan_rules.proofs.failures.fitting_is_of_pod.Goals as goal

pub returns-clause-of_pod : goal.returns-clause-of_pod
returns-clause-of_pod c = λ s pod p plan k f. is_of_pod s pod p plan k f

pub returns-clause-fits : goal.returns-clause-fits
returns-clause-fits c = λ s pod p plan o. of_pod_fits s pod p plan o
