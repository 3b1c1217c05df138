use Rattle.std.proofs.Common.{rules, refl}
use Rattle.deep_search.proofs.Under.{fill-ended, fill-first, fill-over, standing-first}
use Rattle.deep_search.proofs.filling.fill.Goals as goal

pub returns-in_default : goal.returns-in_default
returns-in_default g c =
    let s = c.args.board.now in
    let e = c.in_ok-ended.ensures in
    record {
      setting = refl;
      chosen = refl;
      used = λ searching. absurd (c.in_default.not-Searching searching);
      swept = fill-ended (g.B.Board.problem (g.B.Board.setting s)) (g.B.Board.chosen s) (g.B.Board.placed s) c.args.slots c.args.budget.now c.enter.new.budget
          c.new-windows.result.items c.enter.new.windows.items c.in_ok-ended.ended c.requires.placed c.new-windows.ensures.items c.in_default.not-Searching e.swept;
    }

pub turns-init : goal.turns-init
turns-init g c =
    let s = c.args.board.now in
    let p = g.B.Board.problem (g.B.Board.setting s) in
    let e = c.in_ok-ended.ensures in
    record {
      setting = refl;
      chosen = refl;
      used = e.used c.in-Searching.is;
      standing = standing-first p (g.B.Board.chosen s) (g.B.Board.placed s) c.args.slots c.new-windows.result.items c.enter.new.windows.items
          (g.met.B.Board.empty (g.B.Board.setting s) (g.B.Board.chosen s)) c.requires.shape c.requires.placed c.new-windows.ensures.items (e.opened c.in-Searching.is);
      rest = fill-first p (g.B.Board.chosen s) (g.B.Board.placed s) c.args.slots c.args.budget.now c.enter.new.budget
          c.new-windows.result.items c.enter.new.windows.items c.in_ok-ended.ended c.requires.placed c.new-windows.ensures.items c.in-Searching.is e.swept;
    }

pub returns-clause-swept : goal.returns-clause-swept
returns-clause-swept g c =
    let s = c.args.board.now in
    fill-over (g.B.Board.problem (g.B.Board.setting s)) (g.B.Board.chosen s) (g.B.Board.placed c.turns.board) c.args.slots c.turns.budget c.turns.windows.items _ (search rules) c.turns.invariant.rest
