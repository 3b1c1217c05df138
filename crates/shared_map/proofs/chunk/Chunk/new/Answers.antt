use Rattle.shared_map.proofs.Hitting.{sorted_none}
use Rattle.shared_map.proofs.chunk.Chunk.new.Goals as goal

pub invariant_of-result : goal.invariant_of-result
invariant_of-result g c = sorted_none g.K.Ord.cmp c.new.result.items c.new.ensures.items
