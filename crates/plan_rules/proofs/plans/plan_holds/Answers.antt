use Rattle.plan_rules.proofs.Held.{holds_by}
use Rattle.plan_rules.proofs.plans.plan_holds.Goals as goal

pub returns : goal.returns
returns c = holds_by c.walk_is_allocations.ensures.full
