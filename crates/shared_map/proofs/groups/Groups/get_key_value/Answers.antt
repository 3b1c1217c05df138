use Rattle.std.proofs.Common.{rules, ◌∙◌, ap, sym}
use Rattle.std.specs.BTreeMap.{is_at}
use Rattle.std.specs.Map.{lookup_entry}
use Rattle.shared_map.specs.Chunks.{IsChunkOf}
use Rattle.shared_map.proofs.Looking.{entry_of_chunk}
use Rattle.shared_map.proofs.groups.Groups.get_key_value.Goals as goal

pub returns : goal.returns
returns g c =
    let test = is_at (g.K.Ord.cmp c.args.key.now) in
    let of : IsChunkOf g.K.Ord.cmp c.args.key.now c.self.inside.groups.items c.group_of-at.result = search rules in
    c.get_key_value.ensures
    ∙ ap (lookup_entry test) c.deref-2.ensures
    ∙ sym (entry_of_chunk g.K.Ord.cmp c.args.key.now c.self.inside.groups.items c.group_of-at.result c.index.result.now of c.index.ensures)
    ∙ ap (lookup_entry test) c.self.view_is
