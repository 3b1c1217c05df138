use Rattle.std.proofs.Common.{ℕ, ◌<◌, length, sym, ap, ◌∙◌, subst}
use Rattle.request_rows.specs.Wanted.{input_of}
use Rattle.allocator.specs.Kept.{Placed}
use Rattle.allocator.specs.Placing.{input_at, placed}
use Rattle.allocator.proofs.Viewed.{bad_at}
use Rattle.allocator.proofs.board.RequestBoardBoard.window.Goals as goal

pub returns-clause-below : goal.returns-clause-below
returns-clause-below c = λ x h.
    bad_at c.self.inside.rows.now c.self.inside.held.now.held c.self.inside.run c.deref.result.now c.deref-2.result.now c.args.self.now x
    c.prefixes_are_good.ensures.push c.prefixes_are_good.ensures.past c.self.invariant.run.slots_are c.deref.ensures.value c.deref-2.ensures.value c.self.view_is
    (c.window_of.ensures.below (input_of c.self.inside.rows.now) (input_at (input_of c.self.inside.rows.now) c.self.inside.held.now.held c.self.inside.run.totals (placed (input_of c.self.inside.rows.now) c.self.inside.run.slots.items c.self.inside.run.positions.items))
    (placed (input_of c.self.inside.rows.now) c.self.inside.run.slots.items c.self.inside.run.positions.items) x h)

pub returns-clause-above : goal.returns-clause-above
returns-clause-above c = λ x h k.
    bad_at c.self.inside.rows.now c.self.inside.held.now.held c.self.inside.run c.deref.result.now c.deref-2.result.now c.args.self.now x
    c.prefixes_are_good.ensures.push c.prefixes_are_good.ensures.past c.self.invariant.run.slots_are c.deref.ensures.value c.deref-2.ensures.value c.self.view_is
    (c.window_of.ensures.above (input_of c.self.inside.rows.now) (input_at (input_of c.self.inside.rows.now) c.self.inside.held.now.held c.self.inside.run.totals (placed (input_of c.self.inside.rows.now) c.self.inside.run.slots.items c.self.inside.run.positions.items))
    (placed (input_of c.self.inside.rows.now) c.self.inside.run.slots.items c.self.inside.run.positions.items) x h
    (subst (λ (n : ℕ). x < n) (ap (λ (v : Placed). length v.rows.devices) (sym c.self.view_is) ∙ sym (ap length c.devices.ensures)) k))
