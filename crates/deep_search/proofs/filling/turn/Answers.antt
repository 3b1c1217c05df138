use Rattle.std.proofs.Common.{rules, ap}
use Rattle.deep_search.proofs.Under.{turn-on, standing-on, turn-back, standing-back, turn-end}
use Rattle.deep_search.proofs.filling.turn.Goals as goal

pub returns-in_ok-status-in-Some-2-clause-standing : goal.returns-in_ok-status-in-Some-2-clause-standing
returns-in_ok-status-in-Some-2-clause-standing g c searching =
    let s = c.args.board.now in
    let b = c.place_next.new.board in
    standing-on (g.B.Board.problem (g.B.Board.setting s)) (g.B.Board.problem (g.B.Board.setting b)) (g.B.Board.chosen s) (g.B.Board.placed s) (g.B.Board.placed b) c.args.slots
    c.pop.new.self.items c.args.windows.now.items c.push.new.self.items c.enter.new.windows.items c.in-Some.window c.in-Some-2.rest
    (ap g.B.Board.problem c.in_ok-rest.ensures.setting) c.requires.standing c.in-Some.ensures.items c.in_ok-push-in-Some-2.ensures.items (search rules) (c.in_ok-status-in-Some-2.ensures.opened searching)

pub returns-in_ok-status-in-Some-2-clause-swept : goal.returns-in_ok-status-in-Some-2-clause-swept
returns-in_ok-status-in-Some-2-clause-swept g c =
    let s = c.args.board.now in
    let b = c.place_next.new.board in
    turn-on (g.B.Board.problem (g.B.Board.setting s)) (g.B.Board.problem (g.B.Board.setting b)) (g.B.Board.chosen s) (g.B.Board.chosen b) (g.B.Board.placed s) (g.B.Board.placed b) c.args.slots
    c.args.budget.now c.enter.new.budget c.in_ok-status-in-Some-2.status c.pop.new.self.items c.args.windows.now.items c.push.new.self.items c.enter.new.windows.items c.in-Some.window c.in-Some-2.rest
    (ap g.B.Board.problem c.in_ok-rest.ensures.setting) c.in_ok-rest.ensures.chosen c.in-Some.ensures.items c.requires.standing.depth c.in_ok-push-in-Some-2.ensures.items (search rules) c.in_ok-status-in-Some-2.ensures.swept

pub returns-then-not-is_empty-clause-standing : goal.returns-then-not-is_empty-clause-standing
returns-then-not-is_empty-clause-standing g c searching =
    let s = c.args.board.now in
    standing-back (g.B.Board.problem (g.B.Board.setting s)) (g.B.Board.chosen s) (g.B.Board.placed s) (g.B.Board.placed c.place_next.new.board) (g.B.Board.placed c.pop-then-not-is_empty.new.self) c.args.slots
    c.pop.new.self.items c.args.windows.now.items c.in-Some.window
    (g.met.B.Board.closed (g.B.Board.setting s)) c.requires.standing c.in-Some.ensures.items (search rules) (search rules) c.pop-then-not-is_empty.ensures.placed

pub returns-then-not-is_empty-clause-swept : goal.returns-then-not-is_empty-clause-swept
returns-then-not-is_empty-clause-swept g c =
    let s = c.args.board.now in
    turn-back (g.B.Board.problem (g.B.Board.setting s)) (g.B.Board.chosen s) (g.B.Board.placed s) (g.B.Board.placed c.place_next.new.board) (g.B.Board.placed c.pop-then-not-is_empty.new.self) c.args.slots
    c.args.budget.now c.pop.new.self.items c.args.windows.now.items c.in-Some.window
    c.in-Some.ensures.items c.requires.standing.depth (search rules) (search rules) c.pop-then-not-is_empty.ensures.placed

pub returns-else-not-is_empty-clause-swept : goal.returns-else-not-is_empty-clause-swept
returns-else-not-is_empty-clause-swept g c =
    let s = c.args.board.now in
    turn-end (g.B.Board.problem (g.B.Board.setting s)) (g.B.Board.chosen s) (g.B.Board.placed s) (g.B.Board.placed c.place_next.new.board) c.args.slots
    c.args.budget.now c.pop.new.self.items c.args.windows.now.items c.in-Some.window
    c.in-Some.ensures.items c.requires.standing.depth (search rules)
