use Rattle.allocator.proofs.Viewed.{same_board}
use Rattle.allocator.proofs.board.RequestBoardBoard.pop.Goals as goal

pub returns-clause-setting : goal.returns-clause-setting
returns-clause-setting c = same_board c.self.inside.rows.now c.self.inside.held.now.held c.self.inside.run c.leave.new.run c.args.self.now c.self.view_is c.leave.ensures.setting
