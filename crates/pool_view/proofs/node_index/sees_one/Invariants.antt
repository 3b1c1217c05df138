use Rattle.std.proofs.Common.{◌≡◌, drop}
use Rattle.std.specs.List.{list_any}
use Rattle.pool_view.specs.NodeIndexes.{slices_in}
use Rattle.pool_view.specs.Visibility.{sees_slice}
use Rattle.pool_view.proofs.node_index.sees_one.Given as goal

abbrev pub invariant-loop-placed : goal.invariant-loop-placed
invariant-loop-placed l = list_any (sees_slice l.node) (slices_in (drop l.placed-index l.slices)) ≡ list_any (sees_slice l.node) (slices_in l.slices)
