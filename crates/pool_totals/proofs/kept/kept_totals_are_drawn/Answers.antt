use Rattle.pool_totals.proofs.Counted.{none_drawn}
use Rattle.pool_totals.proofs.Counting.{are_drawn, pairs_fit}
use Rattle.pool_totals.proofs.kept.kept_totals_are_drawn.Goals as goal

pub returns-clause-drawn : goal.returns-clause-drawn
returns-clause-drawn c = are_drawn

pub returns-clause-fits : goal.returns-clause-fits
returns-clause-fits c = pairs_fit

pub returns-clause-there : goal.returns-clause-there
returns-clause-there c = λ i o k listed has none.
    none_drawn i o.slice o.device k (record { counters = λ x d u e at in_slice consumes amounts. c.usable_counters_are_there.ensures i x d u e at in_slice consumes amounts }) listed has none
