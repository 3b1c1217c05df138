use Rattle.std.proofs.Common.{◌≡◌, ◌++◌}
use Rattle.std.specs.Map.{keys_of}
use Rattle.cel_value.specs.Lookups.{ids_in}
use Rattle.cel_value.proofs.device.ids.Given as goal

abbrev pub invariant-loop-name : goal.invariant-loop-name
invariant-loop-name g l = l.ids ++ ids_in l.domain (keys_of l.name-iterator) ≡ ids_in l.domain (keys_of l.table)
