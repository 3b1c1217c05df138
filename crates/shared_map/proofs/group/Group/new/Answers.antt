use Rattle.shared_map.proofs.Placing.{no_chunks}
use Rattle.shared_map.proofs.group.Group.new.Goals as goal

pub invariant_of-result : goal.invariant_of-result
invariant_of-result g c = no_chunks g.K.Ord.cmp c.new.result.items c.new.ensures.items
