use Rattle.std.proofs.Common.{subst, sym}
use Rattle.counter_sets.specs.Totals.{KeptCounters}
use Rattle.pool_totals.specs.Counting.{AreCounted}
use Rattle.pool_totals.proofs.Recounting.{put_counted}
use Rattle.pool_totals.proofs.recount.recount_with.Goals as goal

pub returns : goal.returns
returns c =
    put_counted c.args.inventory.now c.args.holders.now c.in_ok-next.next c.take.new.totals c.take-2.new.totals c.args.index c.args.slice.now c.in_ok-new.new c.in_ok-old.old
    c.pools_change_alone.ensures.put_elsewhere c.keeps_order.ensures (subst (λ (t : KeptCounters). AreCounted c.args.inventory.now c.args.holders.now t) (sym c.in_ok-next.ensures) c.requires.counted)
    c.in_ok-new.ensures.slice c.in_ok-new.ensures.counted c.in_ok-old.ensures.old c.in_ok-old.ensures.counted c.in_ok-take.ensures.value c.in_ok-take.ensures.drawn c.in_ok-take-2.ensures.value c.in_ok-take-2.ensures.drawn
