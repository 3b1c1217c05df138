use Rattle.histories.proofs.GrowthDates.{objects_since, pool_since}
use Rattle.histories.proofs.growth.held_since_dates.Goals as goal

pub returns-clause-objects : goal.returns-clause-objects
returns-clause-objects c = objects_since

pub returns-clause-pool : goal.returns-clause-pool
returns-clause-pool c =
    let keeps = c.changes_keep_held.ensures in
    let lost = c.losses_are_told.ensures in
    pool_since keeps.applied keeps.reserved keeps.written keeps.bound keeps.adopted lost.uses lost.object lost.pool c.checked_is_allocation.ensures.status
