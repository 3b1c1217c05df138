use Rattle.std.proofs.Common.{Some, ◌≡◌}
use Rattle.deep_search.specs.Progress.{told}
use Rattle.allocator.specs.declared.outcome.Outcome as outcomes
use Rattle.allocator.specs.Answered.{answer_by, answer_of}
use Rattle.allocator.specs.Kept.{board_setting}
use Rattle.allocator.proofs.Viewed.{if_ok}
use Rattle.allocator.proofs.Answering.{answered, fault_shape, full_shape}
use Rattle.allocator.proofs.searching.answer_on.Goals as goal

pub outcome_of-requires-clause-full : goal.outcome_of-requires-clause-full
outcome_of-requires-clause-full c =
    full_shape (board_setting c.args.board.now) (board_setting c.search.new.board) c.args.budget c.in_ok-answer.answer c.search.new.board.choice c.search.new.board.positions
    c.outcome_is_exact.ensures.found c.in_ok-answer.ensures.setting c.in_ok-answer.ensures.exact

pub outcome_of-requires-clause-fault : goal.outcome_of-requires-clause-fault
outcome_of-requires-clause-fault c =
    fault_shape (board_setting c.args.board.now) (board_setting c.search.new.board) c.args.budget c.in_ok-answer.answer c.search.new.board.choice c.search.new.board.positions
    c.outcome_is_exact.ensures.within c.walk_has_each_item.ensures.only c.in_ok-answer.ensures.setting c.in_ok-answer.ensures.exact

pub returns-clause-answer : goal.returns-clause-answer
returns-clause-answer c =
    if_ok c.outcome_of.result
    (λ (found : outcomes.Outcome). answer_by (board_setting c.search.new.board) (told c.in_ok-answer.answer c.search.new.board.choice c.search.new.board.positions) ≡ Some found)
    (λ (found : outcomes.Outcome). answer_of (board_setting c.args.board.now) c.args.budget ≡ Some found)
    (λ found e. answered (board_setting c.args.board.now) (board_setting c.search.new.board) c.args.budget c.in_ok-answer.answer c.search.new.board.choice c.search.new.board.positions found c.in_ok-answer.ensures.setting c.in_ok-answer.ensures.exact e)
    c.outcome_of.ensures
