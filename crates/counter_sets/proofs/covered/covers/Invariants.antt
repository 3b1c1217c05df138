use Rattle.std.proofs.Common.{◌≡◌, drop}
use Rattle.std.specs.List.{list_all}
use Rattle.std.specs.Option.{option_copied}
use Rattle.api_slice.specs.declared.types.CounterConsumption.{CounterConsumption}
use Rattle.pool_view.specs.Names.{at_name}
use Rattle.counter_sets.specs.Totals as spec
use Rattle.counter_sets.proofs.covered.covers.Given as goal

abbrev pub invariant-loop-consumption : goal.invariant-loop-consumption
invariant-loop-consumption l =
    list_all (λ (c : CounterConsumption). spec.covers_all (spec.or_empty (at_name (spec.or_empty (option_copied l.sets)) c.set)) l.device c.set c.amounts) (drop l.consumption-index l.device.device.consumes)
    ≡ spec.covers_sets (spec.or_empty (option_copied l.sets)) l.device
