use Rattle.std.proofs.Common.{subst}
use Rattle.pool_view.specs.Inventory.{without_named, without_slice}
use Rattle.pool_view.specs.PoolIndexes.{AreIndexed}
use Rattle.pool_view.proofs.Indexing.{known_of}
use Rattle.pool_view.proofs.inventory.Inventory.is_uncounted_without.Goals as goal

pub returns : goal.returns
returns c =
    known_of c.is_uncounted_in.result c.args.driver.now c.args.pool.now (without_slice c.args.name.now c.args.self.now) c.in_ok-pools-2.pools
    (subst (λ v. AreIndexed (without_named c.args.name.now v.slices) c.in_ok-pools-2.pools) c.self.view_is c.in_ok-pools-2.ensures) c.is_uncounted_in.ensures
