use Rattle.allocations.proofs.GrowthLost.{object_lost, pool_stays, uses_lost}
use Rattle.allocations.proofs.growth.losses_are_told.Goals as goal

pub returns-clause-uses : goal.returns-clause-uses
returns-clause-uses c = uses_lost

pub returns-clause-object : goal.returns-clause-object
returns-clause-object c = object_lost

pub returns-clause-pool : goal.returns-clause-pool
returns-clause-pool c = pool_stays
