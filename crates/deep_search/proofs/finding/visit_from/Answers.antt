use Rattle.std.proofs.Common.{◌∙◌, rules, ap}
use Rattle.deep_search.proofs.Turning.{from-ended, from-last, from-next, same-items}
use Rattle.deep_search.proofs.finding.visit_from.Goals as goal

pub returns-in_default : goal.returns-in_default
returns-in_default g c =
    let p = g.B.Board.problem (g.B.Board.setting c.args.board.now) in
    let q = g.B.Board.problem (g.B.Board.setting c.visits.board) in
    let i = c.visits.invariant in
    let e = c.in_ok-ended.ensures in
    record {
      setting = e.setting ∙ i.setting;
      swept = from-ended p c.args.options.now c.visits.choice.items (g.B.Board.chosen c.visit.new.board) (g.B.Board.placed c.visit.new.board) c.visits.budget c.visit.new.budget c.in_ok-ended.ended _
          c.requires.options i.choice c.in_default.not-Searching i.rest
          (same-items p q c.visits.choice.items c.deref.result.now c.visits.budget _ (ap g.B.Board.problem i.setting) c.deref.ensures.value e.swept);
    }

pub returns-then-not-branch-clause-swept : goal.returns-then-not-branch-clause-swept
returns-then-not-branch-clause-swept g c =
    let p = g.B.Board.problem (g.B.Board.setting c.args.board.now) in
    let q = g.B.Board.problem (g.B.Board.setting c.visits.board) in
    let i = c.visits.invariant in
    let e = c.in_ok-ended.ensures in
    from-last p c.args.options.now c.visits.choice.items (g.B.Board.chosen c.visit.new.board) (g.B.Board.placed c.visit.new.board) c.visits.budget c.visit.new.budget c.in_ok-ended.ended _
    c.requires.options (c.in_ok-next_choice.ensures.last (search rules)) c.in-Searching.is i.rest
    (same-items p q c.visits.choice.items c.deref.result.now c.visits.budget _ (ap g.B.Board.problem i.setting) c.deref.ensures.value e.swept)

pub visits-preserved : goal.visits-preserved
visits-preserved g c =
    let p = g.B.Board.problem (g.B.Board.setting c.args.board.now) in
    let q = g.B.Board.problem (g.B.Board.setting c.visits.board) in
    let i = c.visits.invariant in
    let e = c.in_ok-ended.ensures in
    let next = c.in_ok-next_choice.ensures.next (search rules) in
    record {
      setting = e.setting ∙ i.setting;
      choice = next.choice;
      rest = from-next p c.args.options.now c.visits.choice.items c.next_choice.new.choice.items (g.B.Board.chosen c.visit.new.board) (g.B.Board.placed c.visit.new.board)
          c.visits.budget c.visit.new.budget c.in_ok-ended.ended _ c.requires.options next c.in-Searching.is i.rest
          (same-items p q c.visits.choice.items c.deref.result.now c.visits.budget _ (ap g.B.Board.problem i.setting) c.deref.ensures.value e.swept);
    }
