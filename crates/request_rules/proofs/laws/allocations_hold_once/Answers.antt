use Rattle.request_rules.proofs.Once.{held_once}
use Rattle.request_rules.proofs.laws.allocations_hold_once.Goals as goal

pub returns : goal.returns
returns c = λ w k rs a. held_once w k rs a
