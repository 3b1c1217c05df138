use Rattle.std.proofs.Common.{ℕ, ◌≡◌, ◌+◌, ◌-◌, Some, length}
use Rattle.std.specs.List.{slice_get}
use Rattle.node_memo.specs.declared.nodes.LackingNode.{LackingNode}
use Rattle.node_memo.proofs.nodes.make_rows.Given as goal

abbrev pub invariant-loop-rows : goal.invariant-loop-rows
invariant-loop-rows l = (i : ℕ) (r : LackingNode) → slice_get l.rows.items i ≡ Some (Some r) → slice_get l.fn.rows.items i ≡ Some (Some r)

abbrev pub decreases-loop-rows : goal.decreases-loop-rows
decreases-loop-rows l = l.position + 1 - length l.rows.items
