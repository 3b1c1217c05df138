use Rattle.std.proofs.Common.{◌-◌, sym, subst}
use Rattle.pool_view.specs.Inventory.{IsKept}
use Rattle.pool_view.specs.PoolIndexes.{AreIndexed}
use Rattle.pool_view.proofs.Counts.{few_at, kept_without}
use Rattle.pool_view.proofs.Learned.{forgotten}
use Rattle.pool_view.proofs.inventory.Inventory.remove_slice.Goals as goal

pub overflow_sub-devices : goal.overflow_sub-devices
overflow_sub-devices c = few_at _ c.self.inside.slices c.self.inside.devices c.devices_of.result c.self.invariant.0.sum c.devices_of.ensures

pub invariant_of-self-2 : goal.invariant_of-self-2
invariant_of-self-2 c = (
  subst (λ t. IsKept t (c.self.inside.devices - c.devices_of.result)) (sym c.in_ok-remove.ensures.rest)
      (kept_without c.args.name.now c.self.inside.slices c.self.inside.devices c.devices_of.result c.self.invariant.0 c.devices_of.ensures),
  tt,
  forgotten _ _ c.clear.ensures.items,
  c.self.invariant.3,
  subst (λ t. AreIndexed t c.in_ok-pools.pools) (sym c.in_ok-remove.ensures.rest) c.in_ok-pools.ensures,
)
