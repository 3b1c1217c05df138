use Rattle.allocations.proofs.Walks.{unsat_on}
use Rattle.allocations.proofs.laws.unsat_is_true.Goals as goal

pub returns : goal.returns
returns c = unsat_on c.walk_is_meant.ensures.placed c.outcome_is_exact.ensures.none c.outcome_is_exact.ensures.unfaulted
