use Rattle.std.proofs.Common.{◌≡◌, vec_len}
use Rattle.counter_sets.specs.Totals as spec
use Rattle.counter_sets.proofs.added.put_sets.Given as goal

abbrev pub invariant-loop-set : goal.invariant-loop-set
invariant-loop-set l = spec.with_grown l.grown.items l.sets ≡ spec.with_grown l.fn.grown l.fn.sets

abbrev pub decreases-loop-set : goal.decreases-loop-set
decreases-loop-set l = vec_len l.grown
