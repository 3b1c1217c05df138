use Rattle.std.proofs.Common.{rules, ◌≤◌, length, subst, sym, ◌∙◌}
use Rattle.quantity.specs.Cells.{AreCells}
use Rattle.quantity.proofs.NumberLemmas.{fine, coarse, fine_is, coarse_is, AreCells-drop}
use Rattle.quantity.proofs.magnitude.magnitude.Goals as goal

pub returns-then-not-are_zero : goal.returns-then-not-are_zero
returns-then-not-are_zero c =
    let within : length c.args.fraction.now ≤ length c.product-cells.result = search rules in
    fine_is _ _ (fine _ _ c.product-cells.result c.split_at.result.0.now c.product-cells.ensures.cells within c.product-cells.ensures.value c.split_at.ensures.front (sym c.are_zero.ensures ∙ c.if-not-are_zero.true))

pub number-requires : goal.number-requires
number-requires c = subst AreCells (sym c.split_at.ensures.back) (AreCells-drop (length c.args.fraction.now) c.product-cells.result c.product-cells.ensures.cells)

pub returns : goal.returns
returns c =
    let within : length c.args.fraction.now ≤ length c.product-cells.result = search rules in
    let none = coarse _ _ c.product-cells.result c.split_at.result.0.now c.product-cells.ensures.cells within c.product-cells.ensures.value c.split_at.ensures.front (sym c.are_zero.ensures ∙ c.if-not-are_zero.false) in
    coarse_is _ _ c.product-cells.result c.split_at.result.1.now _ c.product-cells.ensures.cells within c.product-cells.ensures.value c.split_at.ensures.back none c.number.ensures
