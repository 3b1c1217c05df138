use Rattle.pool_view.proofs.Counts.{few_at}
use Rattle.pool_view.proofs.inventory.Inventory.has_room_for.Goals as goal

pub overflow_sub-result : goal.overflow_sub-result
overflow_sub-result c = few_at _ c.self.inside.slices c.self.inside.devices c.devices_of-replaced.result c.self.invariant.0.sum c.devices_of-replaced.ensures
