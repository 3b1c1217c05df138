use Rattle.allocator.proofs.Viewed.{all_back, value_back}
use Rattle.allocator.proofs.board.RequestBoard.into_totals.Goals as goal

pub returns-clause-drawn : goal.returns-clause-drawn
returns-clause-drawn c = λ k.
    all_back c.self.inside.rows.now c.self.inside.held.now.held c.self.inside.run c.clear.new.run c.args.self k c.self.view_is (c.clear.ensures.setting c.self.inside.held.now.held) c.clear.ensures.positions

pub returns-clause-value : goal.returns-clause-value
returns-clause-value c = λ k.
    value_back c.self.inside.rows.now c.self.inside.held.now.held c.self.inside.run c.clear.new.run c.args.self k c.self.view_is (c.clear.ensures.setting c.self.inside.held.now.held)
