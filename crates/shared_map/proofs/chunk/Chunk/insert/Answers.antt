use Rattle.std.proofs.Common.{◌≡◌, ◌∙◌}
use Rattle.std.specs.BTreeMap.{insert_entry}
use Rattle.std.specs.List.{insert}
use Rattle.shared_map.proofs.Hitting.{insert_hit, insert_gap, length-with_value, sorted_insert}
use Rattle.shared_map.proofs.chunk.Chunk.insert.Goals as goal

pub invariant_of-self-in-Err : goal.invariant_of-self-in-Err
invariant_of-self-in-Err g c =
    let gap = c.in-Err.ensures.gap in
    let same : insert c.self.inside.entries.items c.in-Err.at (c.args.key, c.args.value) ≡ insert_entry g.K.Ord.cmp c.self.inside.entries.items c.args.key c.args.value =
    rw c.self.view_is (insert_gap g.K.Ord.cmp c.args.key c.args.value c.args.self.now c.in-Err.at gap.within gap.below gap.above) in
    rw (c.in_ok-insert-in-Err.ensures.items ∙ same) (sorted_insert g.K.Ord.cmp g.met.K.Ord.total c.args.key c.args.value c.self.inside.entries.items c.self.invariant)

pub returns-in-Ok-clause-ok : goal.returns-in-Ok-clause-ok
returns-in-Ok-clause-ok g c = let hit = c.in-Ok.ensures.hit in insert_hit g.K.Ord.cmp c.args.key c.args.value c.args.self.now c.in-Ok.at hit.within hit.below hit.equal

pub returns-in-Ok-clause-count : goal.returns-in-Ok-clause-count
returns-in-Ok-clause-count g c = length-with_value c.args.self.now c.in-Ok.at c.args.value

pub returns-in_ok-insert-in-Err-clause-ok : goal.returns-in_ok-insert-in-Err-clause-ok
returns-in_ok-insert-in-Err-clause-ok g c =
    let gap = c.in-Err.ensures.gap in
    c.in_ok-insert-in-Err.ensures.items ∙ rw c.self.view_is (insert_gap g.K.Ord.cmp c.args.key c.args.value c.args.self.now c.in-Err.at gap.within gap.below gap.above)
