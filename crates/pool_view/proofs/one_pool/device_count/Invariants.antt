use Rattle.std.proofs.Common.{◌≡◌, ◌+◌}
use Rattle.pool_view.specs.Inventory.{device_count}
use Rattle.pool_view.proofs.one_pool.device_count.Given as goal

abbrev pub invariant-loop-stored : goal.invariant-loop-stored
invariant-loop-stored l = l.count + device_count l.stored-iterator ≡ device_count l.slices
