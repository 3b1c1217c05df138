use Rattle.std.proofs.Common.{◌≡◌, ◌∙◌}
use Rattle.deep_search.specs.declared.board.Begun.{Begun}
use Rattle.deep_search.specs.Parts as parts
use Rattle.request_rules.specs.Problem.{shape_of}
use Rattle.request_rows.specs.Wanted.{input_of}
use Rattle.allocator.specs.Kept.{board_setting}
use Rattle.allocator.proofs.Viewed.{if_ok, same_board, shape_at}
use Rattle.allocator.proofs.board.RequestBoardBoard.begin.Goals as goal

pub returns-clause-setting : goal.returns-clause-setting
returns-clause-setting c = same_board c.self.inside.rows.now c.self.inside.held.now.held c.self.inside.run c.start.new.run c.args.self.now c.self.view_is c.start.ensures.setting

pub returns-clause-shape : goal.returns-clause-shape
returns-clause-shape c =
    if_ok c.start.result
    (λ (begun : Begun). parts.shape_of begun ≡ shape_of (input_of c.self.inside.rows.now) c.args.choice.now)
    (λ (begun : Begun). parts.shape_of begun ≡ shape_of (board_setting c.args.self.now) c.args.choice.now)
    (λ begun e. e ∙ shape_at c.self.inside.rows.now c.self.inside.held.now.held c.self.inside.run c.args.self.now c.args.choice.now c.self.view_is)
    c.start.ensures.shape
