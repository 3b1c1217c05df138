use Rattle.std.proofs.Common.{◌≡◌, ◌≤◌, ◌++◌, take, drop}
use Rattle.quantity.specs.Cells.{AreCells, scaled}
use Rattle.quantity.proofs.cells.scale.Given as goal

abbrev pub invariant-loop-cell : goal.invariant-loop-cell
invariant-loop-cell l = record {
  carry : l.carry ≤ l.factor;
  rest : AreCells (drop l.cell-index l.cells);
  done : take l.cell-index l.cells ++ scaled l.factor l.carry (drop l.cell-index l.cells) ≡ scaled l.factor l.fn.add l.fn.cells;
}
