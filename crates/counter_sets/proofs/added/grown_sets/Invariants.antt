use Rattle.std.proofs.Common.{◌≡◌, ◌++◌, drop}
use Rattle.counter_sets.specs.Totals as spec
use Rattle.counter_sets.proofs.added.grown_sets.Given as goal

abbrev pub invariant-loop-set : goal.invariant-loop-set
invariant-loop-set l = l.grown ++ spec.grown_sets (drop l.set-index l.added) l.sets ≡ spec.grown_sets l.added l.sets
