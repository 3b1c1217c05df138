use Rattle.std.proofs.Common.{subst}
use Rattle.std.specs.Prelude.{option_copied}
use Rattle.pool_view.specs.PoolIndexes.{AreIndexed}
use Rattle.pool_view.proofs.Indexing.{index_gone}
use Rattle.pool_view.proofs.pool_index.index_without.Goals as goal

pub returns : goal.returns
returns c =
    index_gone c.args.slices.now c.in-Some.index c.take_old.new.index (option_copied c.get.result) c.args.name.now c.in_order.ensures c.get.ensures
    (subst (AreIndexed c.args.slices.now) c.in-Some.is c.requires) c.in_ok-take_old.ensures
