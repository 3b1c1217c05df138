use Rattle.std.proofs.Common.{◌≡◌, ◌++◌, drop}
use Rattle.pool_view.proofs.draws.push_sets.Given as goal

abbrev pub invariant-loop-set : goal.invariant-loop-set
invariant-loop-set l = l.sets.items ++ drop l.set-index l.slice.counters ≡ l.fn.sets.items ++ l.slice.counters
