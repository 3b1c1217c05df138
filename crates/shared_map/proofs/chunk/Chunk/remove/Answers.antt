use Rattle.std.proofs.Common.{◌<◌, ◌∙◌, length, ap, sym}
use Rattle.std.specs.BTreeMap.{is_at}
use Rattle.std.specs.List.{remove}
use Rattle.shared_map.proofs.Hitting.{sorted_remove, lookup_hit, lookup_gap, remove_hit, remove_none}
use Rattle.shared_map.proofs.Sorting.{at_any}
use Rattle.shared_map.proofs.chunk.Chunk.remove.Goals as goal

pub invariant_of-self : goal.invariant_of-self
invariant_of-self g c = rw c.remove-key.ensures.items (sorted_remove g.K.Ord.cmp c.self.inside.entries.items c.in-Ok.at c.self.invariant)

pub returns-in-Ok-clause-value : goal.returns-in-Ok-clause-value
returns-in-Ok-clause-value g c =
    let hit = c.in-Ok.ensures.hit in
    let here : c.in-Ok.at < length c.self.inside.entries.items = rw c.self.view_is hit.within in
    sym
    (lookup_hit g.K.Ord.cmp c.args.key.now c.args.self.now c.in-Ok.at c.remove-key.result.1 hit.within hit.below hit.equal
    (λ d. rw (← c.self.view_is) (ap (λ e. e.1) (at_any c.self.inside.entries.items c.in-Ok.at c.remove-key.result d here c.remove-key.ensures.value))))

pub returns-in-Ok-clause-rest : goal.returns-in-Ok-clause-rest
returns-in-Ok-clause-rest g c =
    let hit = c.in-Ok.ensures.hit in
    c.remove-key.ensures.items ∙ ap (λ es. remove es c.in-Ok.at) c.self.view_is ∙ remove_hit g.K.Ord.cmp c.args.key.now c.args.self.now c.in-Ok.at hit.within hit.below hit.equal

pub returns-in-Err-clause-value : goal.returns-in-Err-clause-value
returns-in-Err-clause-value g c = let gap = c.in-Err.ensures.gap in sym (lookup_gap g.K.Ord.cmp c.args.key.now c.args.self.now c.in-Err.field-0 gap.below gap.above)

pub returns-in-Err-clause-rest : goal.returns-in-Err-clause-rest
returns-in-Err-clause-rest g c =
    let gap = c.in-Err.ensures.gap in
    sym (remove_none (is_at (g.K.Ord.cmp c.args.key.now)) c.args.self.now (lookup_gap g.K.Ord.cmp c.args.key.now c.args.self.now c.in-Err.field-0 gap.below gap.above))
