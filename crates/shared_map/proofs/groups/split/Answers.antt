use Rattle.std.proofs.Common.{◌∙◌, ap}
use Rattle.shared_map.specs.Chunks.{joined}
use Rattle.shared_map.proofs.Placing.{split_same, split_some}
use Rattle.shared_map.proofs.groups.split.Goals as goal

pub returns-clause-same : goal.returns-clause-same
returns-clause-same g c =
    split_same c.reserve.new.self.items c.insert.new.self.items c.args.at c.index_mut.result.now c.move_upper.new.lower c.move_upper.new.upper c.in-Ok.ensures.items (rw c.in_ok-reserve.ensures.items c.requires.within) c.index_mut.ensures.value
    c.in_ok-move_upper.ensures.same
    ∙ ap joined c.in_ok-reserve.ensures.items

pub returns-clause-none_empty : goal.returns-clause-none_empty
returns-clause-none_empty g c =
    split_some c.reserve.new.self.items c.insert.new.self.items c.args.at c.move_upper.new.lower c.move_upper.new.upper c.in-Ok.ensures.items c.in_ok-move_upper.ensures.lower c.in_ok-move_upper.ensures.upper
    (rw c.in_ok-reserve.ensures.items c.requires.none_empty)
