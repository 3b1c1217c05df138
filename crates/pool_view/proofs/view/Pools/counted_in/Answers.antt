use Rattle.std.proofs.Common.{sym, subst}
use Rattle.api_slice.specs.declared.types.ResourceSlice.{ResourceSlice}
use Rattle.std.specs.Prelude.{List}
use Rattle.pool_view.specs.OnePool.{AreByPool}
use Rattle.pool_view.proofs.PoolOrder.{counted_by_pool}
use Rattle.pool_view.proofs.view.Pools.counted_in.Goals as goal

pub slices_of-requires : goal.slices_of-requires
slices_of-requires c = subst (λ (xs : List ResourceSlice). AreByPool xs) (sym c.counted.ensures) (counted_by_pool c.args.self.now)
