use Rattle.std.proofs.Common.{◌≡◌}
use Rattle.walk.specs.Walk.{IsChoice}
use Rattle.deep_search.specs.Progress.{progress}
use Rattle.deep_search.specs.Choices.{walk_from}
use Rattle.deep_search.proofs.finding.visit_from.Given as goal

abbrev pub invariant-visits : goal.invariant-visits
invariant-visits g l =
    let p = g.B.Board.problem (g.B.Board.setting l.fn.board) in
    record {
      setting : g.B.Board.setting l.board ≡ g.B.Board.setting l.fn.board;
      choice : IsChoice l.options l.choice.items;
      rest : progress l.fn.budget (walk_from p l.fn.choice.items) ≡ progress l.budget (walk_from p l.choice.items);
    }

abbrev pub decreases-visits : goal.decreases-visits
decreases-visits g l = l.budget
