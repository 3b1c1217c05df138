use Rattle.allocations.proofs.Holding.{once_reserved}
use Rattle.allocations.proofs.holders.grants_hold_once.Goals as goal

pub returns : goal.returns
returns c = once_reserved c.allocations_hold_once.ensures
