use Rattle.std.proofs.Common.{◌∙◌, Some, ap, option_copied, sym}
use Rattle.pool_view.specs.Pools.{Offered}
use Rattle.pool_totals.proofs.Counting.{found_end, found_none, found_some}
use Rattle.pool_totals.proofs.kept.found_in.Goals as goal

pub returns-in-Some : goal.returns-in-Some
returns-in-Some c =
    ap (λ (o : Offered). Some o) c.of.ensures
    ∙ found_some c.args.id.now c.args.slices.now c.loop-slice.slice-index c.slice-item.result c.value-slice.result.now c.in-Some.device.now c.loop-slice-test.true c.slice-item.is c.value-slice.ensures
    (sym c.device_of.ensures ∙ ap option_copied c.in-Some.is) c.loop-slice.invariant

pub loop-slice-preserved : goal.loop-slice-preserved
loop-slice-preserved c =
    found_none c.args.id.now c.args.slices.now c.loop-slice.slice-index c.slice-item.result c.value-slice.result.now c.loop-slice-test.true c.slice-item.is c.value-slice.ensures
    (sym c.device_of.ensures ∙ ap option_copied c.in_default.is) c.loop-slice.invariant

pub returns : goal.returns
returns c = found_end c.args.id.now c.args.slices.now c.loop-slice.slice-index c.loop-slice-test.false c.loop-slice.invariant
