use Rattle.std.proofs.Common.{◌+◌, drop}
use Rattle.pool_totals.proofs.Adding.{adding_at, adds_next, adds_none, fits_here, kept_here, room_at, room_next}
use Rattle.pool_totals.proofs.totals.add_held.Goals as goal

pub loop-slice-init : goal.loop-slice-init
loop-slice-init c = (c.requires, adds_none c.args.holders.now c.args.slices.now c.args.totals.now)

pub add_held-requires-clause-kept : goal.add_held-requires-clause-kept
add_held-requires-clause-kept c =
    kept_here c.args.holders.now c.value-slice.result.now (drop (c.loop-slice.slice-index + 1) c.args.slices.now) c.loop-slice.totals
    (room_at c.args.holders.now c.args.slices.now c.loop-slice.slice-index c.slice-item.result c.value-slice.result.now c.loop-slice.totals c.loop-slice-test.true c.slice-item.is c.value-slice.ensures c.loop-slice.invariant.0)

pub add_held-requires-clause-fits : goal.add_held-requires-clause-fits
add_held-requires-clause-fits c = λ k some.
    fits_here c.args.holders.now c.value-slice.result.now (drop (c.loop-slice.slice-index + 1) c.args.slices.now) c.loop-slice.totals
    (room_at c.args.holders.now c.args.slices.now c.loop-slice.slice-index c.slice-item.result c.value-slice.result.now c.loop-slice.totals c.loop-slice-test.true c.slice-item.is c.value-slice.ensures c.loop-slice.invariant.0) k

pub loop-slice-preserved : goal.loop-slice-preserved
loop-slice-preserved c =
    let rest = drop (c.loop-slice.slice-index + 1) c.args.slices.now in (
      room_next c.args.holders.now c.value-slice.result.now rest c.loop-slice.totals c.add_held.new.self
          (room_at c.args.holders.now c.args.slices.now c.loop-slice.slice-index c.slice-item.result c.value-slice.result.now c.loop-slice.totals c.loop-slice-test.true c.slice-item.is c.value-slice.ensures c.loop-slice.invariant.0)
          c.add_held.ensures.value c.add_held.ensures.drawn,
      adds_next c.args.holders.now c.value-slice.result.now c.args.slices.now rest c.args.totals.now c.loop-slice.totals c.add_held.new.self
          (adding_at c.args.holders.now c.args.slices.now c.loop-slice.slice-index c.slice-item.result c.value-slice.result.now c.args.totals.now c.loop-slice.totals c.loop-slice-test.true c.slice-item.is c.value-slice.ensures c.loop-slice.invariant.1)
          c.add_held.ensures.value c.add_held.ensures.drawn,
    )
