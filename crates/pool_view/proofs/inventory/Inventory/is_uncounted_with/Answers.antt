use Rattle.std.proofs.Common.{subst}
use Rattle.pool_view.specs.Inventory.{with_named, with_slice}
use Rattle.pool_view.specs.PoolIndexes.{AreIndexed}
use Rattle.pool_view.proofs.Indexing.{known_of}
use Rattle.pool_view.proofs.inventory.Inventory.is_uncounted_with.Goals as goal

pub returns : goal.returns
returns c =
    known_of c.is_uncounted_in.result c.args.driver.now c.args.pool.now (with_slice c.args.place c.args.slice.now c.args.self.now) c.in_ok-pools-2.pools
    (subst (λ v. AreIndexed (with_named c.args.place c.args.slice.now.name c.args.slice.now v.slices) c.in_ok-pools-2.pools) c.self.view_is c.in_ok-pools-2.ensures) c.is_uncounted_in.ensures
