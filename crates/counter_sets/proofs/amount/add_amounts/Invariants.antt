use Rattle.std.proofs.Common.{◌≡◌, ◌+◌, ◌≤◌, min}
use Rattle.counter_sets.specs.Totals as spec
use Rattle.counter_sets.proofs.amount.add_amounts.Given as goal

abbrev pub invariant-loop-other : goal.invariant-loop-other
invariant-loop-other l = record {
  within : l.total ≤ spec.sum_most;
  sum : min (l.total + spec.sum_of l.name l.other-iterator) spec.sum_most ≡ min (l.fn.start + spec.sum_of l.name l.amounts) spec.sum_most;
}
