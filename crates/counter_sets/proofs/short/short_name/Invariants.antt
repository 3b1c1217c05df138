use Rattle.std.proofs.Common.{◌≡◌}
use Rattle.std.specs.Option.{option_copied}
use Rattle.counter_sets.specs.Totals as spec
use Rattle.counter_sets.proofs.short.short_name.Given as goal

abbrev pub invariant-loop-name : goal.invariant-loop-name
invariant-loop-name l =
    spec.short_name (spec.or_empty (option_copied l.counters)) l.device l.consumption.set l.name-iterator
    ≡ spec.short_name (spec.or_empty (option_copied l.counters)) l.device l.consumption.set l.consumption.amounts
