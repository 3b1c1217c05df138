use Rattle.std.proofs.Common.{◌≡◌, ◌≤◌, ◌++◌, drop, length}
use Rattle.std.specs.List.{flat_map}
use Rattle.pool_view.specs.NodeIndexes.{merged}
use Rattle.pool_view.specs.Visibility.{offered_to}
use Rattle.pool_view.proofs.node_index.push_merged.Given as goal

abbrev pub invariant-loop-placed : goal.invariant-loop-placed
invariant-loop-placed l = record {
  rest : l.out ++ flat_map (offered_to l.node) (merged (drop l.placed-index l.own) (drop l.next l.others)) ≡ l.fn.out ++ flat_map (offered_to l.node) (merged l.own l.others);
  within : l.next ≤ length l.others;
}
