use Rattle.pool_view.proofs.OnePool.{few_in, kept_in}
use Rattle.pool_view.proofs.Learned.{forgotten}
use Rattle.pool_view.proofs.inventory.Inventory.pool.Goals as goal

pub device_count-devices-requires : goal.device_count-devices-requires
device_count-devices-requires c = few_in c.args.driver.now c.args.pool.now c.self.inside.slices c.in_ok-slices.slices c.self.inside.devices c.in_ok-slices.ensures c.self.invariant.0

pub invariant_of-result : goal.invariant_of-result
invariant_of-result c = (
  kept_in c.args.driver.now c.args.pool.now c.self.inside.slices c.in_ok-slices.slices c.self.inside.devices c.device_count-devices.result c.in_ok-slices.ensures c.self.invariant.0 c.device_count-devices.ensures,
  tt,
  forgotten c.in_ok-slices.slices c.new-2.result.items c.new-2.ensures.items,
  tt,
  tt,
)
