use Rattle.std.proofs.Common.{◌∙◌, rules}
use Rattle.deep_search.proofs.Under.{placed-here, passed-on, passed-all}
use Rattle.deep_search.proofs.filling.place_next.Goals as goal

pub returns-then-branch-clause-some : goal.returns-then-branch-clause-some
returns-then-branch-clause-some g c =
    let s = c.args.board.now in
    let b = c.loop-position.board in
    let i = c.loop-position.invariant in
    let e = c.in_ok-try_push.ensures in
    placed-here (g.B.Board.problem (g.B.Board.setting s)) (g.B.Board.problem (g.B.Board.setting b)) (g.B.Board.chosen s) (g.B.Board.chosen b) (g.B.Board.placed s) (g.B.Board.placed b)
    (g.B.Board.placed c.try_push.new.self) c.args.window c.loop-position.position c.in_ok-try_push.field-0
    (cc) i.chosen i.placed c.loop-position-test.true c.if-branch.true e.placed e.good i.passed

pub loop-position-preserved : goal.loop-position-preserved
loop-position-preserved g c =
    let s = c.args.board.now in
    let b = c.loop-position.board in
    let i = c.loop-position.invariant in
    let e = c.in_ok-try_push.ensures in
    record {
      setting = e.setting ∙ i.setting;
      chosen = e.chosen ∙ i.chosen;
      placed = search rules;
      passed = passed-on (g.B.Board.problem (g.B.Board.setting s)) (g.B.Board.problem (g.B.Board.setting b)) (g.B.Board.chosen s) (g.B.Board.chosen b) (g.B.Board.placed s) (g.B.Board.placed b)
          c.args.window c.loop-position.position c.in_ok-try_push.field-0
          (g.met.B.Board.closed (g.B.Board.setting s)) (cc) i.chosen i.placed c.loop-position-test.true c.if-branch.false e.good i.passed;
    }

pub returns-clause-none : goal.returns-clause-none
returns-clause-none g c =
    let s = c.args.board.now in
    let i = c.loop-position.invariant in
    passed-all (g.B.Board.problem (g.B.Board.setting s)) (g.B.Board.chosen s) (g.B.Board.placed s) (g.B.Board.placed c.loop-position.board) c.args.window c.loop-position.position i.placed c.loop-position-test.false i.passed
