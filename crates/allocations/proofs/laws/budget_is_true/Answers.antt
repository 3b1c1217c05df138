use Rattle.allocations.proofs.Walks.{more_on, parts_on}
use Rattle.allocations.proofs.laws.budget_is_true.Goals as goal

pub returns-clause-more : goal.returns-clause-more
returns-clause-more c = more_on c.outcome_is_exact.ensures.over

pub returns-clause-parts : goal.returns-clause-parts
returns-clause-parts c = parts_on c.outcome_is_exact.ensures.unended
