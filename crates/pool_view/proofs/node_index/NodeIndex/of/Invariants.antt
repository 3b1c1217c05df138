use Rattle.std.proofs.Common.{◌≡◌, drop}
use Rattle.pool_view.specs.NodeIndexes.{index_of, with_slices}
use Rattle.pool_view.proofs.node_index.NodeIndex.of.Given as goal

abbrev pub invariant-loop-place : goal.invariant-loop-place
invariant-loop-place l = with_slices l.place (drop l.place l.slices) l.index ≡ index_of l.slices
