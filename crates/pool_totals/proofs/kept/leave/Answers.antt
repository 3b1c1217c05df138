use Rattle.std.proofs.Common.{rules, None, Some}
use Rattle.counter_sets.specs.Holding.{holder_in}
use Rattle.pool_totals.proofs.Counting.{found_as, left_found, left_none, some_from}
use Rattle.pool_totals.proofs.kept.leave.Goals as goal

pub returns-in_ok-give_back-clause-counted : goal.returns-in_ok-give_back-clause-counted
returns-in_ok-give_back-clause-counted c =
    left_found c.args.pools.now c.args.holders.now c.remove.new.self c.args.totals.now c.give_back.new.self c.args.device.now c.in-Some.found (c.usable_slices_differ.ensures.ids c.args.pools.now) c.requires
    (some_from c.holder.result (holder_in c.args.holders.now c.args.device.now) c.holder.ensures (search rules)) c.in_ok-remove.ensures.ok
    (found_as c.args.pools.now c.args.device.now c.counted_in.result.now c.found_in.result (Some c.in-Some.found) c.counted_in.ensures c.found_in.ensures c.in-Some.is) c.in_ok-give_back.ensures.value c.in_ok-give_back.ensures.drawn

pub returns-in_default-clause-counted : goal.returns-in_default-clause-counted
returns-in_default-clause-counted c =
    left_none c.args.pools.now c.args.holders.now c.remove.new.self c.args.totals.now c.args.device.now c.requires
    (some_from c.holder.result (holder_in c.args.holders.now c.args.device.now) c.holder.ensures (search rules)) c.in_ok-remove.ensures.ok
    (found_as c.args.pools.now c.args.device.now c.counted_in.result.now c.found_in.result None c.counted_in.ensures c.found_in.ensures c.in_default.is)
