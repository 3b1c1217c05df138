use Rattle.std.proofs.Common.{◌+◌, ◌*◌, ◌-◌, ◌≡◌, ◌<◌, [], vec_len}
use Rattle.deep_search.specs.Progress.{progress}
use Rattle.deep_search.specs.Parts.{items_under, pending, Standing}
use Rattle.deep_search.proofs.filling.fill.Given as goal

abbrev pub invariant-turns : goal.invariant-turns
invariant-turns g l =
    let p = g.B.Board.problem (g.B.Board.setting l.fn.board) in
    let c = g.B.Board.chosen l.fn.board in
    let here = g.B.Board.placed l.board in
    record {
      setting : g.B.Board.setting l.board ≡ g.B.Board.setting l.fn.board;
      chosen : g.B.Board.chosen l.board ≡ c;
      used : l.budget < l.fn.budget;
      standing : Standing p c here l.slots l.windows.items;
      rest : progress l.fn.budget (items_under p c [] l.slots) ≡ progress l.budget (pending p c [] (l.slots - 1) l.windows.items here);
    }

abbrev pub decreases-turns : goal.decreases-turns
decreases-turns g l = 2 * l.budget + vec_len l.windows
