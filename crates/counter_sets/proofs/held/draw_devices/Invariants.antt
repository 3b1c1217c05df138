use Rattle.std.proofs.Common.{◌≡◌, drop}
use Rattle.counter_sets.specs.Holding as spec
use Rattle.counter_sets.proofs.held.draw_devices.Given as goal

abbrev pub invariant-loop-device : goal.invariant-loop-device
invariant-loop-device l = spec.added_held l.held l.slice (drop l.device-index l.slice.devices) l.drivers ≡ spec.added_held l.held l.slice l.slice.devices l.fn.drivers
