use Rattle.std.proofs.Common.{◌≡◌, ◌+◌, ◌-◌, ◌≤◌, drop, length}
use Rattle.pool_view.specs.NodeIndexes.{count_before}
use Rattle.pool_view.proofs.node_index.count_before.Given as goal

abbrev pub invariant-loop-count : goal.invariant-loop-count
invariant-loop-count l = record {
  rest : l.count + count_before l.place (drop l.count l.slices) ≡ count_before l.place l.slices;
  within : l.count ≤ length l.slices;
}

abbrev pub decreases-loop-count : goal.decreases-loop-count
decreases-loop-count l = length l.slices - l.count
