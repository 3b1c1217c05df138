use Rattle.std.proofs.Common.{arith, sym, ◌∙◌, ap, subst}
use Rattle.quantity.specs.Cells.{value_of, AreCells}
use Rattle.quantity.proofs.CellLemmas.{value_of-scaled, AreCells-scaled, whole_scaled}
use Rattle.quantity.proofs.cells.scale.Goals as goal

pub returns-clause-value : goal.returns-clause-value
returns-clause-value c =
    ap value_of (whole_scaled c.loop-cell.cells _ _ _ c.loop-cell.cell-index (omega arith) c.loop-cell.invariant.done) ∙ value_of-scaled _ _ c.args.cells.now c.requires.fits

pub returns-clause-cells : goal.returns-clause-cells
returns-clause-cells c =
    subst AreCells (sym (whole_scaled c.loop-cell.cells _ _ _ c.loop-cell.cell-index (omega arith) c.loop-cell.invariant.done)) (AreCells-scaled c.args.factor c.args.add c.args.cells.now)
