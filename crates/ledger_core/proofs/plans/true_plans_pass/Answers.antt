use Rattle.ledger_core.proofs.Passing.{unfailing}
use Rattle.ledger_core.proofs.plans.true_plans_pass.Goals as goal

pub returns : goal.returns
returns c = unfailing (record { holds = c.plan_holds.ensures; fits = c.fitting_is_of_pod.ensures.fits; passes = c.allocations_pass.ensures.plan; limits = c.objects_keep_limits.ensures.now })
