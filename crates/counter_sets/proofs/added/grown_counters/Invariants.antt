use Rattle.std.proofs.Common.{◌≡◌}
use Rattle.pool_view.specs.Names.{at_name}
use Rattle.counter_sets.specs.Totals as spec
use Rattle.counter_sets.proofs.added.grown_counters.Given as goal

abbrev pub invariant-loop-name : goal.invariant-loop-name
invariant-loop-name l = spec.with_counters l.name-iterator l.counters ≡ spec.with_counters l.set.counters (spec.or_empty (at_name l.sets l.set.name))
