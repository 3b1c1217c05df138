use Rattle.std.proofs.Common.{List, ◌+◌, drop, drop_of_length-le, subst}
use Rattle.api_slice.specs.declared.types.ResourceSlice.{ResourceSlice}
use Rattle.pool_totals.proofs.Adding.{IsFilling, filled, filling_at, fills_next, fills_none}
use Rattle.pool_totals.proofs.totals.undrawn.Goals as goal

pub loop-slice-init : goal.loop-slice-init
loop-slice-init c = fills_none c.args.slices.now c.new-totals.result c.new-totals.ensures.none c.new-totals.ensures.zero

pub loop-slice-preserved : goal.loop-slice-preserved
loop-slice-preserved c =
    fills_next c.args.slices.now (drop (c.loop-slice.slice-index + 1) c.args.slices.now) c.value-slice.result.now c.loop-slice.totals c.add_slice.new.self
    (filling_at c.args.slices.now c.loop-slice.slice-index c.slice-item.result c.value-slice.result.now c.loop-slice.totals c.loop-slice-test.true c.slice-item.is c.value-slice.ensures c.loop-slice.invariant)
    c.in_ok-add_slice.ensures.value c.in_ok-add_slice.ensures.drawn

pub returns : goal.returns
returns c = filled c.args.slices.now c.loop-slice.totals (subst (λ (l : List ResourceSlice). IsFilling c.args.slices.now l c.loop-slice.totals) (drop_of_length-le c.args.slices.now c.loop-slice-test.false) c.loop-slice.invariant)
