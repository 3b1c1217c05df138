use Rattle.std.proofs.Common.{◌≡◌, drop}
use Rattle.std.specs.Option.{option_copied}
use Rattle.counter_sets.specs.Totals as spec
use Rattle.counter_sets.proofs.short.first_short.Given as goal

abbrev pub invariant-loop-consumption : goal.invariant-loop-consumption
invariant-loop-consumption l =
    spec.short_in (spec.or_empty (option_copied l.sets)) l.device (drop l.consumption-index l.device.device.consumes)
    ≡ spec.short_in (spec.or_empty (option_copied l.sets)) l.device l.device.device.consumes
