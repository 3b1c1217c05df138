use Rattle.std.proofs.Common.{◌≤◌, ◌∙◌, length, arith, refl}
use Rattle.shared_map.proofs.Hitting.{lower_some, upper_some}
use Rattle.shared_map.proofs.Placing.{cut_same, lower_chunks, upper_chunks, some_joined}
use Rattle.shared_map.proofs.group.Group.split_off.Goals as goal

pub invariant_of-result : goal.invariant_of-result
invariant_of-result g c = upper_chunks g.K.Ord.cmp c.self.inside.chunks.items _ _ c.in_ok-split_off.ensures.tail c.self.invariant

pub invariant_of-self-2 : goal.invariant_of-self-2
invariant_of-self-2 g c = lower_chunks g.K.Ord.cmp c.self.inside.chunks.items _ _ c.in_ok-split_off.ensures.items c.self.invariant

pub returns-clause-same : goal.returns-clause-same
returns-clause-same g c = cut_same c.self.inside.chunks.items _ _ _ c.in_ok-split_off.ensures.items c.in_ok-split_off.ensures.tail ∙ c.self.view_is

pub returns-clause-lower : goal.returns-clause-lower
returns-clause-lower g c =
    let many : 2 ≤ length c.self.inside.chunks.items = omega (arith, c.self.inside.chunks.ok.0) in
    some_joined c.split_off.new.self.items (lower_chunks g.K.Ord.cmp c.self.inside.chunks.items _ _ c.in_ok-split_off.ensures.items c.self.invariant).none_empty
    (lower_some c.self.inside.chunks.items c.self.inside.chunks.items _ _ c.in_ok-split_off.ensures.items (c.len-half.ensures ∙ c.self.inside.chunks.ok.0) refl many)

pub returns-clause-upper : goal.returns-clause-upper
returns-clause-upper g c =
    let many : 2 ≤ length c.self.inside.chunks.items = omega (arith, c.self.inside.chunks.ok.0) in
    some_joined c.in_ok-split_off.field-0.items (upper_chunks g.K.Ord.cmp c.self.inside.chunks.items _ _ c.in_ok-split_off.ensures.tail c.self.invariant).none_empty
    (upper_some c.self.inside.chunks.items c.self.inside.chunks.items _ _ c.in_ok-split_off.ensures.tail (c.len-half.ensures ∙ c.self.inside.chunks.ok.0) refl many)
