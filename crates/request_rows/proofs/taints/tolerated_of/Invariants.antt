use Rattle.std.proofs.Common.{◌≡◌, ◌++◌, map, drop}
use Rattle.request_rows.specs.Taints.{tolerates_device}
use Rattle.request_rows.proofs.taints.tolerated_of.Given as goal

abbrev pub invariant-loop-device : goal.invariant-loop-device
invariant-loop-device l = l.flags ++ map (tolerates_device l.ask) (drop l.device-index l.devices) ≡ map (tolerates_device l.ask) l.devices
