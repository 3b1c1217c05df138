use Rattle.std.proofs.Common.{◌≡◌, map, take}
use Rattle.prepare_core.specs.Names.{name_of}
use Rattle.prepare_core.proofs.rows.device_names.Given as goal

abbrev pub invariant-loop-device : goal.invariant-loop-device
invariant-loop-device l = l.names ≡ map (name_of l.uid) (take l.device-index l.devices)
