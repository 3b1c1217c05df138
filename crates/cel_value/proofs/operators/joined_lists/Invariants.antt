use Rattle.std.proofs.Common.{◌≡◌, ◌++◌, drop}
use Rattle.cel_value.proofs.operators.joined_lists.Given as goal

abbrev pub invariant-loop-item : goal.invariant-loop-item
invariant-loop-item l = l.joined ++ drop l.item-index l.right ≡ l.left ++ l.right
