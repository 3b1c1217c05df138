use Rattle.std.proofs.Common.{◌∙◌}
use Rattle.shared_map.proofs.Hitting.{sorted_take, sorted_drop, halves_same, lower_some, upper_some}
use Rattle.shared_map.proofs.chunk.Chunk.split_off.Goals as goal

pub invariant_of-result : goal.invariant_of-result
invariant_of-result g c = rw c.in_ok-split_off.ensures.tail (sorted_drop g.K.Ord.cmp c.self.inside.entries.items _ c.self.invariant)

pub invariant_of-self-2 : goal.invariant_of-self-2
invariant_of-self-2 g c = rw c.in_ok-split_off.ensures.items (sorted_take g.K.Ord.cmp c.self.inside.entries.items _ c.self.invariant)

pub returns-clause-same : goal.returns-clause-same
returns-clause-same g c = halves_same c.args.self.now c.self.inside.entries.items _ _ _ c.in_ok-split_off.ensures.items c.in_ok-split_off.ensures.tail c.self.view_is

pub returns-clause-lower : goal.returns-clause-lower
returns-clause-lower g c = lower_some c.args.self.now c.self.inside.entries.items _ _ c.in_ok-split_off.ensures.items (c.len-half.ensures ∙ c.self.inside.entries.ok.0) c.self.view_is c.requires

pub returns-clause-upper : goal.returns-clause-upper
returns-clause-upper g c = upper_some c.args.self.now c.self.inside.entries.items _ _ c.in_ok-split_off.ensures.tail (c.len-half.ensures ∙ c.self.inside.entries.ok.0) c.self.view_is c.requires
