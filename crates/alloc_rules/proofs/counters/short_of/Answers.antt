use Rattle.std.proofs.Common.{rules, ◌∙◌, sym}
use Rattle.counter_sets.specs.Totals.{drawn_in, value_of}
use Rattle.request_rows.specs.Wanted.{input_of}
use Rattle.plan_rules.specs.Chosen.{pick_of}
use Rattle.alloc_rules.specs.Rows.{due_seen}
use Rattle.alloc_rules.proofs.Counting.{covered_by, device_at, drawn_again, none_found, none_seen, short_none, some_seen}
use Rattle.alloc_rules.proofs.Lists.{here}
use Rattle.alloc_rules.proofs.counters.short_of.Goals as goal

pub draw-requires : goal.draw-requires
draw-requires c = record { covered = covered_by (value_of c.give_back.new.self) (drawn_in c.give_back.new.self) c.index-devices-due.result (none_found _ c.first_short-short.result _ (search rules) c.first_short-short.ensures.counter) }

pub returns-then-is_none-clause-found : goal.returns-then-is_none-clause-found
returns-then-is_none-clause-found c = λ w ps i has at admin.
    let device = here (input_of c.args.rows.now).devices c.args.due.now.position c.index-devices-due.result c.requires.on_node (search rules) in
    none_seen _ c.first_short-short.result (search rules)
    ∙ short_none (input_of c.args.rows.now) w c.args.totals.now c.give_back.new.self ps i (pick_of w (due_seen (input_of c.args.rows.now) c.args.due.now)) c.index-devices-due.result has at (sym c.requires.admin ∙ admin)
    (device_at (input_of c.args.rows.now) w c.args.due.now c.index-devices-due.result has.devices c.requires device) c.in_ok-give_back.ensures.value c.in_ok-give_back.ensures.drawn (none_found _ c.first_short-short.result _ (search rules) c.first_short-short.ensures.counter)

pub returns-then-is_none-clause-same : goal.returns-then-is_none-clause-same
returns-then-is_none-clause-same c = λ w ps i has at admin none.
    let device = here (input_of c.args.rows.now).devices c.args.due.now.position c.index-devices-due.result c.requires.on_node (search rules) in
    drawn_again (input_of c.args.rows.now) w c.args.totals.now c.give_back.new.self c.draw.new.self ps i (pick_of w (due_seen (input_of c.args.rows.now) c.args.due.now)) c.index-devices-due.result has at (sym c.requires.admin ∙ admin)
    (device_at (input_of c.args.rows.now) w c.args.due.now c.index-devices-due.result has.devices c.requires device) c.in_ok-give_back.ensures.value c.in_ok-give_back.ensures.drawn c.in_ok-draw.ensures.value c.in_ok-draw.ensures.drawn

pub returns-clause-found : goal.returns-clause-found
returns-clause-found c = λ w ps i has at admin.
    let device = here (input_of c.args.rows.now).devices c.args.due.now.position c.index-devices-due.result c.requires.on_node (search rules) in
    some_seen _ _ _ _ (input_of c.args.rows.now) w c.args.totals.now c.give_back.new.self ps i (pick_of w (due_seen (input_of c.args.rows.now) c.args.due.now)) c.index-devices-due.result c.first_short-short.result has at (sym c.requires.admin ∙ admin)
    (device_at (input_of c.args.rows.now) w c.args.due.now c.index-devices-due.result has.devices c.requires device) c.in_ok-give_back.ensures.value c.in_ok-give_back.ensures.drawn (search rules) c.first_short-short.ensures.counter c.first_short-short.ensures.drawn c.first_short-short.ensures.value
