use Rattle.std.proofs.Common.{◌≡◌, ◌+◌, ◌≤◌, min, drop}
use Rattle.counter_sets.specs.Totals as spec
use Rattle.counter_sets.proofs.amount.amount_from.Given as goal

abbrev pub invariant-loop-consumption : goal.invariant-loop-consumption
invariant-loop-consumption l = record {
  within : l.total ≤ spec.sum_most;
  sum : min (l.total + spec.sum_from l.set l.name (drop l.consumption-index l.consumes)) spec.sum_most ≡ min (spec.sum_from l.set l.name l.consumes) spec.sum_most;
}
