use Rattle.std.proofs.Common.{◌-◌, ◌≡◌, ℕ}
use Rattle.deep_search.specs.Parts.{branches}
use Rattle.deep_search.proofs.filling.place_next.Given as goal

abbrev pub invariant-loop-position : goal.invariant-loop-position
invariant-loop-position g l =
    let p = g.B.Board.problem (g.B.Board.setting l.fn.board) in
    let c = g.B.Board.chosen l.fn.board in
    let here = g.B.Board.placed l.fn.board in
    record {
      setting : g.B.Board.setting l.board ≡ g.B.Board.setting l.fn.board;
      chosen : g.B.Board.chosen l.board ≡ c;
      placed : g.B.Board.placed l.board ≡ here;
      passed : (room : ℕ) → branches p c here room l.window.next (l.window.end - l.window.next) ≡ branches p c here room l.position (l.window.end - l.position);
    }

abbrev pub decreases-loop-position : goal.decreases-loop-position
decreases-loop-position g l = l.window.end - l.position
