use Rattle.pool_totals.proofs.Counting.{none_counted}
use Rattle.pool_totals.proofs.kept.new_totals.Goals as goal

pub returns : goal.returns
returns c = none_counted c.args.inventory.now c.in_ok-totals.totals c.requires c.in_ok-totals.ensures.none c.in_ok-totals.ensures.zero
