use Rattle.allocator.proofs.Viewed.{same_board_at}
use Rattle.allocator.proofs.board.RequestBoardBoard.try_push.Goals as goal

pub returns-clause-setting : goal.returns-clause-setting
returns-clause-setting c = same_board_at c.self.inside.rows.now c.self.inside.held.now.held c.self.inside.run c.join.new.run c.args.self.now c.self.view_is c.join.ensures.setting
