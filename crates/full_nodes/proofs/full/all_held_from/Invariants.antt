use Rattle.std.proofs.Common.{◌≡◌, drop}
use Rattle.full_nodes.specs.Full.{all_held}
use Rattle.full_nodes.proofs.full.all_held_from.Given as goal

abbrev pub invariant-loop-device : goal.invariant-loop-device
invariant-loop-device l = all_held l.pool.holders (drop l.device-index l.devices) ≡ all_held l.fn.pool.holders l.devices
