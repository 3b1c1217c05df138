use Rattle.std.proofs.Common.{true, false, length, refl, sym, ◌∙◌}
use Rattle.request_rules.specs.Rules.{least_after}
use Rattle.request_rows.specs.Wanted.{input_of}
use Rattle.allocator.specs.Placing.{input_at, placed}
use Rattle.allocator.proofs.Joining.{next_none, next_some}
use Rattle.allocator.proofs.run.next_pick.Goals as goal

pub returns-then-not-fills-clause-good : goal.returns-then-not-fills-clause-good
returns-then-not-fills-clause-good c =
    next_some (input_of c.args.rows.now) c.args.held.now.held c.args.totals.now c.args.slots.now (length c.args.positions.now) (placed (input_of c.args.rows.now) c.args.slots.now c.args.positions.now)
    (least_after 0 c.args.positions.now) _ c.args.position c.slot_at.result c.in-Some.slot false _
    c.slot_at.ensures c.in-Some.is c.last_of.ensures (sym c.if-not-fills.true ∙ c.fills.ensures) refl

pub returns-then-not-may_join-clause-good : goal.returns-then-not-may_join-clause-good
returns-then-not-may_join-clause-good c =
    next_some (input_of c.args.rows.now) c.args.held.now.held c.args.totals.now c.args.slots.now (length c.args.positions.now) (placed (input_of c.args.rows.now) c.args.slots.now c.args.positions.now)
    (least_after 0 c.args.positions.now) _ c.args.position c.slot_at.result c.in-Some.slot true false
    c.slot_at.ensures c.in-Some.is c.last_of.ensures (sym c.if-not-fills.false ∙ c.fills.ensures) (sym c.if-not-may_join.true ∙ c.may_join.ensures.exact)

pub returns-in-None-clause-good : goal.returns-in-None-clause-good
returns-in-None-clause-good c =
    next_none (input_of c.args.rows.now) (input_at (input_of c.args.rows.now) c.args.held.now.held c.args.totals.now (placed (input_of c.args.rows.now) c.args.slots.now c.args.positions.now))
    c.args.slots.now (length c.args.positions.now) (placed (input_of c.args.rows.now) c.args.slots.now c.args.positions.now) (least_after 0 c.args.positions.now) c.args.position c.slot_at.result c.slot_at.ensures c.in-None.is

pub returns-else-not-may_join-clause-good : goal.returns-else-not-may_join-clause-good
returns-else-not-may_join-clause-good c =
    next_some (input_of c.args.rows.now) c.args.held.now.held c.args.totals.now c.args.slots.now (length c.args.positions.now) (placed (input_of c.args.rows.now) c.args.slots.now c.args.positions.now)
    (least_after 0 c.args.positions.now) _ c.args.position c.slot_at.result c.in-Some.slot true true
    c.slot_at.ensures c.in-Some.is c.last_of.ensures (sym c.if-not-fills.false ∙ c.fills.ensures) (sym c.if-not-may_join.false ∙ c.may_join.ensures.exact)
