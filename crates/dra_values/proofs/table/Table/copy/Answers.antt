use Rattle.dra_values.proofs.Ordered.{prefix_grows}
use Rattle.dra_values.proofs.table.Table.copy.Goals as goal

pub loop-key-preserved : goal.loop-key-preserved
loop-key-preserved g c =
    prefix_grows g.K.Ord.cmp g.met.K.Ord.total _ c.loop-key.copy c.insert.new.self c.loop-key.key-iterator c.next.new.self c.in-Some.key.now c.in_ok-key.key c.in-Some.value.now c.in_ok-duplicate.field-0 c.loop-key.invariant c.in-Some.ensures.steps (rw c.as_map-key-items.ensures at c.into_iter-key-iterator.ensures.into_iter_gives.5) c.in_ok-key.ensures c.in_ok-duplicate.ensures c.in_ok-insert.ensures.ok
