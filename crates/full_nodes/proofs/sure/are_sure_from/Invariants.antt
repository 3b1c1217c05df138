use Rattle.std.proofs.Common.{◌≡◌, true, drop}
use Rattle.full_nodes.specs.Sure.{all_sure_at, are_sure}
use Rattle.full_nodes.proofs.sure.are_sure_from.Given as goal

abbrev pub invariant-loop-device : goal.invariant-loop-device
invariant-loop-device l = (all_sure_at l.known l.before.name ≡ true) × (are_sure l.known (drop l.device-index l.devices) ≡ true → are_sure l.known l.devices ≡ true)
