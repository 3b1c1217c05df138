use Rattle.pool_view.proofs.Counts.{kept_none}
use Rattle.pool_view.proofs.Indexing.{no_index}
use Rattle.pool_view.proofs.Learned.{forgotten}
use Rattle.pool_view.proofs.inventory.Inventory.new.Goals as goal

pub invariant_of-result : goal.invariant_of-result
invariant_of-result c = (
  kept_none c.in_ok-slices.slices c.in_ok-slices.ensures,
  tt,
  forgotten c.in_ok-slices.slices c.new-4.result.items c.new-4.ensures.items,
  tt,
  no_index c.in_ok-new.field-0 c.in_ok-slices.slices c.in_ok-new.ensures c.in_ok-slices.ensures,
)
