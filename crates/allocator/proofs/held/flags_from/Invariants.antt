use Rattle.std.proofs.Common.{◌≡◌, ◌++◌, drop}
use Rattle.allocator.specs.Holding.{flags_of}
use Rattle.allocator.proofs.held.flags_from.Given as goal

abbrev pub invariant-loop-device : goal.invariant-loop-device
invariant-loop-device l = l.flags.items ++ flags_of l.pool.holders (drop l.device-index l.devices) ≡ flags_of l.fn.pool.holders l.devices
