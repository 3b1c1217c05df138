use Rattle.std.proofs.Common.{◌≡◌}
use Rattle.std.specs.List.{list_all}
use Rattle.std.specs.Map.{keys_of}
use Rattle.cel_value.specs.Device.{is_short_name}
use Rattle.cel_value.proofs.device.names_are_short.Given as goal

abbrev pub invariant-loop-name : goal.invariant-loop-name
invariant-loop-name g l = list_all is_short_name (keys_of l.name-iterator) ≡ list_all is_short_name (keys_of l.table)
