use Rattle.std.proofs.Common.{◌≡◌}
use Rattle.counter_sets.specs.Totals as spec
use Rattle.counter_sets.proofs.change.move_counters.Given as goal

abbrev pub invariant-loop-name : goal.invariant-loop-name
invariant-loop-name l = spec.moved_counters l.change l.name-iterator l.counters ≡ spec.moved_counters l.change l.amounts l.fn.counters
