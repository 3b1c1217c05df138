use Rattle.std.proofs.Common.{subst, sym}
use Rattle.counter_sets.specs.Totals.{KeptCounters}
use Rattle.pool_totals.specs.Counting.{AreCounted}
use Rattle.pool_totals.proofs.Recounting.{removed_counted}
use Rattle.pool_totals.proofs.recount.recount_without.Goals as goal

pub returns : goal.returns
returns c =
    removed_counted c.args.inventory.now c.args.holders.now c.in_ok-next.next c.take.new.totals c.args.name.now c.in_ok-old.old
    c.pools_change_alone.ensures.removed_elsewhere c.keeps_order.ensures (subst (λ (t : KeptCounters). AreCounted c.args.inventory.now c.args.holders.now t) (sym c.in_ok-next.ensures) c.requires)
    c.in_ok-old.ensures.old c.in_ok-old.ensures.counted c.in_ok-take.ensures.value c.in_ok-take.ensures.drawn
