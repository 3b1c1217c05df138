use Rattle.pool_view.proofs.Drawn.{counters_there}
use Rattle.pool_view.proofs.laws.usable_counters_are_there.Goals as goal

pub returns : goal.returns
returns c = counters_there
