use Rattle.std.proofs.Common.{◌≡◌}
use Rattle.std.specs.List.{list_all}
use Rattle.std.specs.Map.{values_of}
use Rattle.cel_value.specs.Device.{is_short_value}
use Rattle.cel_value.proofs.device.values_are_short.Given as goal

abbrev pub invariant-loop-value : goal.invariant-loop-value
invariant-loop-value l = list_all is_short_value (values_of l.value-iterator) ≡ list_all is_short_value (values_of l.table)
