use Rattle.std.proofs.Common.{◌≡◌, vec_len}
use Rattle.counter_sets.specs.Totals as spec
use Rattle.counter_sets.proofs.added.take_back.Given as goal

abbrev pub invariant-loop-name : goal.invariant-loop-name
invariant-loop-name l = spec.without_sets l.names.items l.sets ≡ spec.without_sets l.fn.names l.fn.sets

abbrev pub decreases-loop-name : goal.decreases-loop-name
decreases-loop-name l = vec_len l.names
