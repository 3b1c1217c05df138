use Rattle.allocations.proofs.Walks.{every_on, full_on, least_on}
use Rattle.allocations.proofs.laws.walk_is_allocations.Goals as goal

pub returns-clause-full : goal.returns-clause-full
returns-clause-full c = full_on c.walk_is_meant.ensures.full

pub returns-clause-every : goal.returns-clause-every
returns-clause-every c = every_on c.walk_is_meant.ensures.every

pub returns-clause-least : goal.returns-clause-least
returns-clause-least c = least_on c.walk_is_exact.ensures.full c.walk_is_exact.ensures.least
