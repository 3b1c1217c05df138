use Rattle.std.proofs.Common.{rules, ◌∙◌, ap}
use Rattle.std.specs.BTreeMap.{insert_entry}
use Rattle.shared_map.specs.Chunks.{IsChunkOf}
use Rattle.shared_map.proofs.Placing.{first_chunks, put_same, put_kept, put_count}
use Rattle.shared_map.proofs.groups.Groups.insert.Goals as goal

pub invariant_of-self-then-is_empty : goal.invariant_of-self-then-is_empty
invariant_of-self-then-is_empty g c = first_chunks g.K.Ord.cmp c.args.key c.args.value c.put_first.new.groups.items c.in_ok-put_first.ensures.ok

pub invariant_of-self-2 : goal.invariant_of-self-2
invariant_of-self-2 g c =
    let of : IsChunkOf g.K.Ord.cmp c.args.key c.self.inside.groups.items c.group_of-at.result = search rules in
    let all =
    c.split.ensures.same
    ∙ put_same g.K.Ord.cmp c.args.key c.args.value c.self.inside.groups.items c.group_of-at.result c.index_mut.result.now c.put_in.new.group of c.index_mut.ensures.value c.in_ok-is_new.ensures.ok in
    put_kept g.K.Ord.cmp g.met.K.Ord.total c.args.key c.args.value c.self.inside.groups.items c.split.new.groups.items all c.split.ensures.none_empty c.self.invariant

pub returns-clause-ok : goal.returns-clause-ok
returns-clause-ok g c =
    let of : IsChunkOf g.K.Ord.cmp c.args.key c.self.inside.groups.items c.group_of-at.result = search rules in
    c.split.ensures.same
    ∙ put_same g.K.Ord.cmp c.args.key c.args.value c.self.inside.groups.items c.group_of-at.result c.index_mut.result.now c.put_in.new.group of c.index_mut.ensures.value c.in_ok-is_new.ensures.ok
    ∙ ap (λ es. insert_entry g.K.Ord.cmp es c.args.key c.args.value) c.self.view_is

pub returns-clause-count : goal.returns-clause-count
returns-clause-count g c =
    let of : IsChunkOf g.K.Ord.cmp c.args.key c.self.inside.groups.items c.group_of-at.result = search rules in
    rw (← c.self.view_is)
    (put_count c.self.inside.groups.items c.split.new.groups.items c.group_of-at.result c.index_mut.result.now c.put_in.new.group c.in_ok-is_new.is_new c.split.ensures.same of.within c.index_mut.ensures.value c.in_ok-is_new.ensures.count)
