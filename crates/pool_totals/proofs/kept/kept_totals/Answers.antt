use Rattle.std.proofs.Common.{◌∙◌, ap}
use Rattle.pool_view.specs.Usable.{counted_slices}
use Rattle.pool_totals.proofs.Counting.{all_fit, are_counted, room_of}
use Rattle.pool_totals.proofs.kept.kept_totals.Goals as goal

pub add_held-requires : goal.add_held-requires
add_held-requires c =
    let all = c.counted-counted.ensures ∙ ap counted_slices c.in_ok-pools.ensures in
    room_of c.args.inventory.now c.args.holders.now c.counted-counted.result.now c.in_ok-totals.totals
    (record { counters = λ x d k e listed has consumes amounts. c.usable_counters_are_there.ensures c.args.inventory.now x d k e listed has consumes amounts })
    all (all_fit c.args.inventory.now c.counted-counted.result.now c.usable_devices_are_few.ensures all c.keep_limits.ensures) c.in_ok-totals.ensures

pub returns : goal.returns
returns c =
    let all = c.counted-counted.ensures ∙ ap counted_slices c.in_ok-pools.ensures in
    are_counted c.args.inventory.now c.args.holders.now c.counted-counted.result.now c.in_ok-totals.totals c.add_held.new.totals all
    (all_fit c.args.inventory.now c.counted-counted.result.now c.usable_devices_are_few.ensures all c.keep_limits.ensures) c.in_ok-totals.ensures c.add_held.ensures
