use Rattle.std.proofs.Common.{◌<◌, length, sym}
use Rattle.shared_map.proofs.Looking.{entry_hit, entry_gap}
use Rattle.shared_map.proofs.Sorting.{at_any}
use Rattle.shared_map.proofs.chunk.Chunk.get_key_value.Goals as goal

pub returns-in-Ok : goal.returns-in-Ok
returns-in-Ok g c =
    let hit = c.in-Ok.ensures.hit in
    let here : c.in-Ok.at < length c.self.inside.entries.items = rw c.self.view_is hit.within in
    sym (entry_hit g.K.Ord.cmp c.args.key.now c.args.self.now c.in-Ok.at c.index-entry.result.now hit.within hit.below hit.equal (λ d. rw (← c.self.view_is) (at_any c.self.inside.entries.items c.in-Ok.at c.index-entry.result.now d here c.index-entry.ensures)))

pub returns-in-Err : goal.returns-in-Err
returns-in-Err g c = let gap = c.in-Err.ensures.gap in sym (entry_gap g.K.Ord.cmp c.args.key.now c.args.self.now c.in-Err.field-0 gap.below gap.above)
