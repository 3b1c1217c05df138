use Rattle.std.proofs.Common.{sym, ap, ◌∙◌}
use Rattle.counter_sets.specs.Totals.{drawn_in}
use Rattle.request_rows.specs.declared.rows.Row.{Row}
use Rattle.request_rows.specs.Wanted.{input_of}
use Rattle.allocator.specs.Placing.{pick_seen}
use Rattle.allocator.proofs.Inputs.{device_at, back_plain}
use Rattle.allocator.proofs.standing.give_back.Goals as goal

pub returns-clause-drawn : goal.returns-clause-drawn
returns-clause-drawn c =
    let v = input_of c.args.rows.now in
    let x = c.args.pick.position in
    λ k. back_plain v (pick_seen v c.args.pick) (drawn_in c.args.totals.now) (drawn_in c.give_back.new.self) k c.index-devices-pick.result
    (device_at v.devices c.devices.result.now x c.index-devices-pick.result c.devices.ensures c.requires.position c.index-devices-pick.is)
    (sym (ap (λ (r : Row). r.admin) c.row.ensures) ∙ c.if-row.false) (c.give_back.ensures.drawn k)
