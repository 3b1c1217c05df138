use Rattle.std.proofs.Common.{rules, None, Some}
use Rattle.counter_sets.specs.Holding.{holder_in}
use Rattle.pool_totals.proofs.Counting.{found_as, given_fits, given_found, given_kept, given_none, none_from}
use Rattle.pool_totals.proofs.kept.hold.Goals as goal

pub hold-requires-clause-kept : goal.hold-requires-clause-kept
hold-requires-clause-kept c =
    λ k none.
    given_kept c.args.pools.now c.args.totals.now c.args.device.now c.in-Some.found k
    (record { counters = λ x d u e at in_slice consumes amounts. c.usable_counters_are_there.ensures c.args.pools.now x d u e at in_slice consumes amounts }) c.requires.value_is
    (found_as c.args.pools.now c.args.device.now c.counted_in.result.now c.found_in.result (Some c.in-Some.found) c.counted_in.ensures c.found_in.ensures c.in-Some.is) none

pub hold-requires-clause-fits : goal.hold-requires-clause-fits
hold-requires-clause-fits c = λ k.
    given_fits c.args.pools.now c.args.holders.now c.insert.new.self c.args.totals.now c.args.device.now c.args.claim c.in-Some.found k (c.usable_slices_differ.ensures.ids c.args.pools.now) c.requires
    (none_from c.holder.result (holder_in c.args.holders.now c.args.device.now) c.holder.ensures (search rules)) c.in_ok-insert.ensures.ok
    (found_as c.args.pools.now c.args.device.now c.counted_in.result.now c.found_in.result (Some c.in-Some.found) c.counted_in.ensures c.found_in.ensures c.in-Some.is)

pub returns-in_ok-hold-clause-counted : goal.returns-in_ok-hold-clause-counted
returns-in_ok-hold-clause-counted c =
    given_found c.args.pools.now c.args.holders.now c.insert.new.self c.args.totals.now c.hold.new.self c.args.device.now c.args.claim c.in-Some.found (c.usable_slices_differ.ensures.ids c.args.pools.now) c.requires
    (none_from c.holder.result (holder_in c.args.holders.now c.args.device.now) c.holder.ensures (search rules)) c.in_ok-insert.ensures.ok
    (found_as c.args.pools.now c.args.device.now c.counted_in.result.now c.found_in.result (Some c.in-Some.found) c.counted_in.ensures c.found_in.ensures c.in-Some.is) c.in_ok-hold.ensures.value c.in_ok-hold.ensures.drawn

pub returns-in_default-clause-counted : goal.returns-in_default-clause-counted
returns-in_default-clause-counted c =
    given_none c.args.pools.now c.args.holders.now c.insert.new.self c.args.totals.now c.args.device.now c.args.claim c.requires
    (none_from c.holder.result (holder_in c.args.holders.now c.args.device.now) c.holder.ensures (search rules)) c.in_ok-insert.ensures.ok
    (found_as c.args.pools.now c.args.device.now c.counted_in.result.now c.found_in.result None c.counted_in.ensures c.found_in.ensures c.in_default.is)
