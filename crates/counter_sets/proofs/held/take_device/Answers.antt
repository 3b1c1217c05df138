use Rattle.std.proofs.Common.{ap, ◌∙◌}
use Rattle.pool_view.specs.Names.{at_name}
use Rattle.counter_sets.proofs.Leaving.{gone}
use Rattle.counter_sets.proofs.held.take_device.Goals as goal

pub returns-clause-gone : goal.returns-clause-gone
returns-clause-gone c = ap (λ t. at_name t c.args.name.now) c.in_ok-remove.ensures.rest ∙ gone c.args.name.now c.args.devices.now c.in_order.ensures
