use Rattle.std.proofs.Common.{arith, sym, ap, ◌∙◌}
use Rattle.deep_search.specs.Parts.{shape_of}
use Rattle.deep_search.proofs.Under.{faulty-none, faulty-last, hopeless-none, hopeless-part, visit-open, same_report}
use Rattle.deep_search.proofs.finding.visit.Goals as goal

pub returns-then-budget-eq0-clause-swept : goal.returns-then-budget-eq0-clause-swept
returns-then-budget-eq0-clause-swept g c =
    faulty-none (g.B.Board.problem (g.B.Board.setting c.args.board.now)) c.args.choice.now c.args.budget.now (sym c.in_ok-slots.ensures.shape ∙ ap shape_of c.in-Faulty.is) (omega arith)

pub returns-then-budget-eq0-2-clause-swept : goal.returns-then-budget-eq0-2-clause-swept
returns-then-budget-eq0-2-clause-swept g c =
    hopeless-none (g.B.Board.problem (g.B.Board.setting c.args.board.now)) c.args.choice.now c.args.budget.now (sym c.in_ok-slots.ensures.shape ∙ ap shape_of c.in-Hopeless.is) (omega arith)

pub returns-in_ok-status-in-Open-clause-swept : goal.returns-in_ok-status-in-Open-clause-swept
returns-in_ok-status-in-Open-clause-swept g c =
    let p = g.B.Board.problem (g.B.Board.setting c.args.board.now) in
    let e = c.in_ok-slots.ensures in
    let f = c.in_ok-status-in-Open.ensures in
    let b = c.begin.new.self in
    visit-open p (g.B.Board.problem (g.B.Board.setting b)) c.args.choice.now (g.B.Board.chosen b) (g.B.Board.chosen c.fill.new.board) (g.B.Board.placed c.fill.new.board)
    c.in-Open.slots c.args.budget.now c.fill.new.budget c.in_ok-status-in-Open.status (ap g.B.Board.problem e.setting) e.chosen (sym e.shape ∙ ap shape_of c.in-Open.is) f.chosen f.swept

pub returns-else-budget-eq0-clause-swept : goal.returns-else-budget-eq0-clause-swept
returns-else-budget-eq0-clause-swept g c =
    let p = g.B.Board.problem (g.B.Board.setting c.args.board.now) in
    let e = c.in_ok-slots.ensures in
    faulty-last p c.args.choice.now c.args.budget.now (sym e.shape ∙ ap shape_of c.in-Faulty.is) (omega arith)
    ∙ same_report c.args.choice.now (g.B.Board.chosen c.begin.new.self) e.chosen

pub returns-else-budget-eq0-2-clause-swept : goal.returns-else-budget-eq0-2-clause-swept
returns-else-budget-eq0-2-clause-swept g c =
    hopeless-part (g.B.Board.problem (g.B.Board.setting c.args.board.now)) c.args.choice.now c.args.budget.now (sym c.in_ok-slots.ensures.shape ∙ ap shape_of c.in-Hopeless.is) (omega arith)
