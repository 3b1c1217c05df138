use Rattle.std.proofs.Common.{◌≡◌, ◌++◌, drop}
use Rattle.std.specs.List.{flat_map}
use Rattle.pool_view.specs.NodeIndexes.{slices_in}
use Rattle.pool_view.specs.Visibility.{offered_to}
use Rattle.pool_view.proofs.node_index.push_all.Given as goal

abbrev pub invariant-loop-placed : goal.invariant-loop-placed
invariant-loop-placed l = l.out ++ flat_map (offered_to l.node) (slices_in (drop l.placed-index l.slices)) ≡ l.fn.out ++ flat_map (offered_to l.node) (slices_in l.slices)
