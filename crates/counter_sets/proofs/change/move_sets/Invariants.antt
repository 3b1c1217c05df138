use Rattle.std.proofs.Common.{◌≡◌, drop}
use Rattle.counter_sets.specs.Totals as spec
use Rattle.counter_sets.proofs.change.move_sets.Given as goal

abbrev pub invariant-loop-consumption : goal.invariant-loop-consumption
invariant-loop-consumption l = spec.moved_sets l.change (drop l.consumption-index l.consumes) l.sets ≡ spec.moved_sets l.change l.consumes l.fn.sets
