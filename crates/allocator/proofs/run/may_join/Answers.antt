use Rattle.std.proofs.Common.{sym, ◌∙◌, refl, false, true}
use Rattle.request_rows.specs.Wanted.{input_of}
use Rattle.allocator.specs.Placing.{pick_seen, placed}
use Rattle.allocator.proofs.Joining.{joined}
use Rattle.allocator.proofs.Placed.{positions_known}
use Rattle.allocator.proofs.run.may_join.Goals as goal

pub returns-then-not-all_apart-clause-exact : goal.returns-then-not-all_apart-clause-exact
returns-then-not-all_apart-clause-exact c =
    joined (input_of c.args.rows.now) c.args.held.now c.args.totals.now (placed (input_of c.args.rows.now) c.args.slots.now c.args.positions.now) (pick_seen (input_of c.args.rows.now) c.args.pick) false _ _ _
    c.joining_is_by_device.ensures.covers c.joining_is_by_device.ensures.admin c.requires.pick.position c.requires.drawn c.requires.devices
    (sym c.if-not-all_apart.true ∙ c.all_apart.ensures) refl refl refl

pub returns-then-not-is_free-clause-exact : goal.returns-then-not-is_free-clause-exact
returns-then-not-is_free-clause-exact c =
    joined (input_of c.args.rows.now) c.args.held.now c.args.totals.now (placed (input_of c.args.rows.now) c.args.slots.now c.args.positions.now) (pick_seen (input_of c.args.rows.now) c.args.pick) true false _ _
    c.joining_is_by_device.ensures.covers c.joining_is_by_device.ensures.admin c.requires.pick.position c.requires.drawn c.requires.devices
    (sym c.if-not-all_apart.false ∙ c.all_apart.ensures) (sym c.if-not-is_free.true ∙ c.is_free.ensures) refl refl

pub returns-then-not-covers-clause-exact : goal.returns-then-not-covers-clause-exact
returns-then-not-covers-clause-exact c =
    joined (input_of c.args.rows.now) c.args.held.now c.args.totals.now (placed (input_of c.args.rows.now) c.args.slots.now c.args.positions.now) (pick_seen (input_of c.args.rows.now) c.args.pick) true true false _
    c.joining_is_by_device.ensures.covers c.joining_is_by_device.ensures.admin c.requires.pick.position c.requires.drawn c.requires.devices
    (sym c.if-not-all_apart.false ∙ c.all_apart.ensures) (sym c.if-not-is_free.false ∙ c.is_free.ensures) (sym c.if-not-covers.true ∙ c.covers.ensures) refl

pub returns-clause-exact : goal.returns-clause-exact
returns-clause-exact c =
    joined (input_of c.args.rows.now) c.args.held.now c.args.totals.now (placed (input_of c.args.rows.now) c.args.slots.now c.args.positions.now) (pick_seen (input_of c.args.rows.now) c.args.pick) true true true c.agrees.result
    c.joining_is_by_device.ensures.covers c.joining_is_by_device.ensures.admin c.requires.pick.position c.requires.drawn c.requires.devices
    (sym c.if-not-all_apart.false ∙ c.all_apart.ensures) (sym c.if-not-is_free.false ∙ c.is_free.ensures) (sym c.if-not-covers.false ∙ c.covers.ensures)
    (c.agrees.ensures _ c.requires.agreed (positions_known (input_of c.args.rows.now) c.args.slots.now c.args.positions.now c.requires.placing))

pub returns-clause-agreed : goal.returns-clause-agreed
returns-clause-agreed c = λ yes. sym (c.agrees.ensures _ c.requires.agreed (positions_known (input_of c.args.rows.now) c.args.slots.now c.args.positions.now c.requires.placing)) ∙ yes
