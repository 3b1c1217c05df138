use Rattle.std.proofs.Common.{◌+◌, ◌∙◌, Bool, ap, cond, map, sym, take}
use Rattle.cluster.specs.Held.{held}
use Rattle.request_rules.specs.Draws.{drawn_from}
use Rattle.counter_sets.specs.Totals.{drawn_in}
use Rattle.request_rows.specs.Wanted.{input_of}
use Rattle.alloc_rules.specs.Rows.{due_seen}
use Rattle.alloc_rules.proofs.Added.{draws_all, draws_fit, draws_next, draws_none, draws_there, listed_rows}
use Rattle.alloc_rules.proofs.Lists.{here}
use Rattle.alloc_rules.proofs.drawing.draw_all.Goals as goal

pub loop-due-init : goal.loop-due-init
loop-due-init c =
    draws_none c.args.state.now.inventory (held c.args.state.now) (input_of c.args.rows.now) c.args.dues.now c.args.totals.now
    (c.kept_totals_are_drawn.ensures.drawn c.args.state.now.inventory c.args.holders.now (held c.args.state.now) c.args.totals.now c.requires.holders c.requires.totals)

pub device_of-device-requires : goal.device_of-device-requires
device_of-device-requires c = (c.requires.dues c.loop-due.due-index c.due-item.result (here c.args.dues.now c.loop-due.due-index c.due-item.result c.loop-due-test.true c.due-item.is))

pub draw-requires-clause-kept : goal.draw-requires-clause-kept
draw-requires-clause-kept c = λ own k.
    draws_there c.args.state.now.inventory (held c.args.state.now) (input_of c.args.rows.now) (map (due_seen (input_of c.args.rows.now)) (take c.loop-due.due-index c.args.dues.now)) c.due-item.result c.device_of-device.result.now c.loop-due.totals k
    (c.kept_totals_are_drawn.ensures.there c.args.state.now.inventory) (listed_rows c.args.state.now _ c.args.node.now c.args.rows.now c.deref.ensures c.requires.rows c.devices_differ.ensures.listed) c.device_of-device.ensures c.loop-due.invariant

pub draw-requires-clause-fits : goal.draw-requires-clause-fits
draw-requires-clause-fits c = λ own k.
    draws_fit c.args.state.now.inventory (held c.args.state.now) (input_of c.args.rows.now) c.args.dues.now c.loop-due.due-index c.due-item.result c.device_of-device.result.now c.loop-due.totals k
    (λ pairs m. c.kept_totals_are_drawn.ensures.fits c.args.state.now.inventory c.args.holders.now c.args.totals.now pairs m c.requires.totals) (listed_rows c.args.state.now _ c.args.node.now c.args.rows.now c.deref.ensures c.requires.rows c.devices_differ.ensures.listed) (c.usable_slices_differ.ensures.ids c.args.state.now.inventory)
    (c.requires.dues c.loop-due.due-index c.due-item.result (here c.args.dues.now c.loop-due.due-index c.due-item.result c.loop-due-test.true c.due-item.is)) c.requires.free c.loop-due-test.true c.due-item.is c.device_of-device.ensures c.loop-due.invariant (sym c.is_admin.ensures ∙ own)

pub loop-due-preserved : goal.loop-due-preserved
loop-due-preserved c =
    draws_next c.args.state.now.inventory (held c.args.state.now) (input_of c.args.rows.now) c.args.dues.now c.loop-due.due-index c.due-item.result c.device_of-device.result.now c.loop-due.totals c.draw.new.totals (listed_rows c.args.state.now _ c.args.node.now c.args.rows.now c.deref.ensures c.requires.rows c.devices_differ.ensures.listed) (c.usable_slices_differ.ensures.ids c.args.state.now.inventory)
    (c.requires.dues c.loop-due.due-index c.due-item.result (here c.args.dues.now c.loop-due.due-index c.due-item.result c.loop-due-test.true c.due-item.is)) c.requires.free c.loop-due-test.true c.due-item.is c.device_of-device.ensures c.loop-due.invariant c.in_ok-draw.ensures.value
    (λ k. c.in_ok-draw.ensures.drawn k ∙ ap (λ (b : Bool). drawn_in c.loop-due.totals k + cond b 0 (drawn_from k c.device_of-device.result.now)) c.is_admin.ensures)

pub returns : goal.returns
returns c =
    draws_all c.args.state.now.inventory (held c.args.state.now) (input_of c.args.rows.now) c.args.dues.now c.loop-due.due-index c.loop-due.totals
    (λ pairs m. c.kept_totals_are_drawn.ensures.fits c.args.state.now.inventory c.args.holders.now c.args.totals.now pairs m c.requires.totals) (listed_rows c.args.state.now _ c.args.node.now c.args.rows.now c.deref.ensures c.requires.rows c.devices_differ.ensures.listed) (c.usable_slices_differ.ensures.ids c.args.state.now.inventory) c.requires.dues c.requires.free c.loop-due-test.false
    c.loop-due.invariant
