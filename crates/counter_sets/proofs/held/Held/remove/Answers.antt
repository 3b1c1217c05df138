use Rattle.counter_sets.proofs.Leaving.{holder_left_if}
use Rattle.counter_sets.proofs.held.Held.remove.Goals as goal

pub returns-clause-ok : goal.returns-clause-ok
returns-clause-ok c = holder_left_if c.take.result c.args.device.now c.args.self.now c.take.new.self c.take.ensures.rest c.take.ensures.gone
