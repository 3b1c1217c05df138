use Rattle.std.proofs.Common.{◌-◌, ◌∙◌, [], length, arith, refl, sym}
use Rattle.deep_search.specs.Parts.{pending}
use Rattle.deep_search.proofs.Under.{enter-none, enter-full, enter-more}
use Rattle.deep_search.proofs.filling.enter.Goals as goal

pub returns-then-budget-eq0-clause-swept : goal.returns-then-budget-eq0-clause-swept
returns-then-budget-eq0-clause-swept g c =
    let s = c.args.board.now in
    let p = g.B.Board.problem (g.B.Board.setting s) in
    let l = g.B.Board.placed s in
    enter-none p (g.B.Board.chosen s) l (c.args.slots - length l) c.args.budget.now (pending p (g.B.Board.chosen s) [] (c.args.slots - 1) c.args.windows.now.items l) c.requires.good c.if-budget-eq0.true

pub returns-then-len-slots-clause-swept : goal.returns-then-len-slots-clause-swept
returns-then-len-slots-clause-swept g c =
    let s = c.args.board.now in
    let p = g.B.Board.problem (g.B.Board.setting s) in
    let l = g.B.Board.placed s in
    enter-full p (g.B.Board.chosen s) l c.args.slots (c.args.slots - length l) c.args.budget.now (pending p (g.B.Board.chosen s) [] (c.args.slots - 1) c.args.windows.now.items l)
    c.requires.good c.requires.shape (omega arith) (c.requires.depth ∙ sym c.len.ensures ∙ c.if-len-slots.true)

pub returns-clause-swept : goal.returns-clause-swept
returns-clause-swept g c =
    let s = c.args.board.now in
    let p = g.B.Board.problem (g.B.Board.setting s) in
    let l = g.B.Board.placed s in
    enter-more p (g.B.Board.chosen s) l c.args.slots c.window-next.result.0 c.window-next.result.1 c.args.budget.now (c.args.budget.now - 1) c.args.windows.now.items c.push.new.self.items
    (g.met.B.Board.closed (g.B.Board.setting s)) c.requires.good c.requires.shape (omega arith) refl
    (omega (arith, c.args.windows.now.ok.0)) (omega arith) c.window-next.ensures.order c.window-next.ensures.known c.window-next.ensures.below c.window-next.ensures.above
    c.in_ok-push.ensures.items
