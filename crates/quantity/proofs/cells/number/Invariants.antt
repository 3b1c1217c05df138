use Rattle.std.proofs.Common.{◌≡◌, ◌≤◌, drop, length}
use Rattle.quantity.specs.Cells.{value_of}
use Rattle.quantity.proofs.cells.number.Given as goal

abbrev pub invariant-loop-at : goal.invariant-loop-at
invariant-loop-at l = record {
  within : l.at ≤ length l.cells;
  small : l.number ≤ 9223372036854775807000000000;
  value : l.number ≡ value_of (drop l.at l.cells);
}

abbrev pub decreases-loop-at : goal.decreases-loop-at
decreases-loop-at l = l.at
