use Rattle.std.specs.BTreeMap.{is_at}
use Rattle.shared_map.proofs.Placing.{took_count, left_count}
use Rattle.shared_map.proofs.sharing.SharedMap.remove.Goals as goal

pub invariant_of-self-then-is_some : goal.invariant_of-self-then-is_some
invariant_of-self-then-is_some g c =
    took_count (is_at (g.K.Ord.cmp c.args.key.now)) c.self.inside.groups c.in_ok-change.field-0.now c.remove.new.self c.in_ok-value.value c.self.inside.count c.self.invariant c.in_ok-change.ensures.value c.in_ok-value.ensures.value
    c.in_ok-value.ensures.rest c.if-is_some.ensures

pub invariant_of-self-else-is_some : goal.invariant_of-self-else-is_some
invariant_of-self-else-is_some g c =
    left_count (is_at (g.K.Ord.cmp c.args.key.now)) c.self.inside.groups c.in_ok-change.field-0.now c.remove.new.self c.in_ok-value.value c.self.inside.count c.self.invariant c.in_ok-change.ensures.value c.in_ok-value.ensures.value
    c.in_ok-value.ensures.rest c.if-is_some.ensures
