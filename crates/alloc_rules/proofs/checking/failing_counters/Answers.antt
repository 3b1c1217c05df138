use Rattle.std.proofs.Common.{rules, ◌∙◌, ap, map, sym}
use Rattle.request_rows.specs.Wanted.{input_of}
use Rattle.allocations.specs.Input as states
use Rattle.alloc_rules.specs.Rows.{due_seen}
use Rattle.plan_rules.specs.Standing.{counter_short}
use Rattle.alloc_rules.proofs.Alike.{picks_same}
use Rattle.alloc_rules.proofs.Lists.{if_ok}
use Rattle.alloc_rules.proofs.Totalled.{drawn_are, none_drawn}
use Rattle.alloc_rules.proofs.checking.failing_counters.Goals as goal

pub returns-then-not-draws_any : goal.returns-then-not-draws_any
returns-then-not-draws_any c = none_drawn c.args.state.now c.args.node.now c.args.rows.now c.args.dues.now c.requires.rows c.requires.dues (search rules)

pub returns : goal.returns
returns c =
    if_ok _ _ c.counter_short.result (λ found e. e ∙ ap (counter_short (states.input_of c.args.state.now c.args.rows.now.wants.claims c.args.node.now)) (sym (picks_same c.args.state.now c.args.node.now c.args.rows.now (map (due_seen (input_of c.args.rows.now)) c.args.dues.now) c.requires.rows)))
    (c.counter_short.ensures (states.input_of c.args.state.now c.args.rows.now.wants.claims c.args.node.now)
    (drawn_are c.args.state.now _ c.args.node.now c.args.rows.now c.in_ok-totals.totals c.args.dues.now c.deref.ensures c.requires.rows c.requires.dues c.requires.free c.in_ok-totals.ensures
    c.devices_differ.ensures.listed (c.usable_slices_differ.ensures.ids c.args.state.now.inventory)))
