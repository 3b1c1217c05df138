use Rattle.std.proofs.Common.{rules, ◌∙◌, ap, sym}
use Rattle.std.specs.BTreeMap.{is_at}
use Rattle.std.specs.Map.{lookup, remove_entry}
use Rattle.shared_map.specs.Chunks.{IsChunkOf}
use Rattle.shared_map.proofs.Placing.{others_some, take_same, took_kept, lookup_of_chunk}
use Rattle.shared_map.proofs.groups.Groups.remove.Goals as goal

pub drop_empty-requires-clause-others : goal.drop_empty-requires-clause-others
drop_empty-requires-clause-others g c = others_some c.self.inside.groups.items c.group_of-at.result c.take_from.new.group c.self.invariant.none_empty

pub invariant_of-self-2 : goal.invariant_of-self-2
invariant_of-self-2 g c =
    let of : IsChunkOf g.K.Ord.cmp c.args.key.now c.self.inside.groups.items c.group_of-at.result = search rules in
    let all =
    c.drop_empty.ensures.same
    ∙ take_same g.K.Ord.cmp c.args.key.now c.self.inside.groups.items c.group_of-at.result c.index_mut.result.now c.take_from.new.group of c.index_mut.ensures.value c.in_ok-value.ensures.rest in
    took_kept g.K.Ord.cmp c.args.key.now c.self.inside.groups.items c.drop_empty.new.groups.items all c.drop_empty.ensures.none_empty c.self.invariant

pub returns-clause-value : goal.returns-clause-value
returns-clause-value g c =
    let test = is_at (g.K.Ord.cmp c.args.key.now) in
    let of : IsChunkOf g.K.Ord.cmp c.args.key.now c.self.inside.groups.items c.group_of-at.result = search rules in
    c.in_ok-value.ensures.value
    ∙ sym (lookup_of_chunk g.K.Ord.cmp c.args.key.now c.self.inside.groups.items c.group_of-at.result c.index_mut.result.now of c.index_mut.ensures.value)
    ∙ ap (lookup test) c.self.view_is

pub returns-clause-rest : goal.returns-clause-rest
returns-clause-rest g c =
    let test = is_at (g.K.Ord.cmp c.args.key.now) in
    let of : IsChunkOf g.K.Ord.cmp c.args.key.now c.self.inside.groups.items c.group_of-at.result = search rules in
    c.drop_empty.ensures.same
    ∙ take_same g.K.Ord.cmp c.args.key.now c.self.inside.groups.items c.group_of-at.result c.index_mut.result.now c.take_from.new.group of c.index_mut.ensures.value c.in_ok-value.ensures.rest
    ∙ ap (remove_entry test) c.self.view_is
