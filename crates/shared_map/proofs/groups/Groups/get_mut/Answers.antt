use Rattle.std.proofs.Common.{rules, ◌≡◌, ◌∙◌, ap, sym, inl, inr}
use Rattle.std.proofs.Math.ListN.{get_or}
use Rattle.std.specs.BTreeMap.{is_at}
use Rattle.std.specs.Map.{lookup, set_value}
use Rattle.shared_map.specs.Chunks.{IsChunkOf, joined}
use Rattle.shared_map.proofs.Joining.{set_here}
use Rattle.shared_map.proofs.Placing.{set_joined, written, lookup_of_chunk}
use Rattle.shared_map.proofs.groups.Groups.get_mut.Goals as goal

pub invariant_of-self-lent : goal.invariant_of-self-lent
invariant_of-self-lent g c w =
    let of : IsChunkOf g.K.Ord.cmp c.args.key.now c.self.inside.groups.items c.group_of-at.result = search rules in
    let here : c.in_ok-group.group.now ≡ get_or c.self.inside.groups.items c.group_of-at.result c.in_ok-group.group.now = rw c.in_ok-group.ensures.value c.index_mut-group.ensures.value in
    written g.K.Ord.cmp c.args.key.now w c.self.inside.groups.items c.group_of-at.result c.in_ok-group.group.now of here c.self.invariant

pub returns-in-Ok : goal.returns-in-Ok
returns-in-Ok g c =
    let of : IsChunkOf g.K.Ord.cmp c.args.key.now c.self.inside.groups.items c.group_of-at.result = search rules in
    let here : c.in_ok-group.group.now ≡ get_or c.self.inside.groups.items c.group_of-at.result c.in_ok-group.group.now = rw c.in_ok-group.ensures.value c.index_mut-group.ensures.value in (
      λ i. inl (
        c.in-Ok.value.ghost_name,
        λ w. (set_joined g.K.Ord.cmp c.args.key.now w c.self.inside.groups.items c.group_of-at.result c.in_ok-group.group.now of here ∙ ap (λ es. set_value (is_at (g.K.Ord.cmp c.args.key.now)) es w) c.self.view_is) i,
      ),
      record {
        writes_back = tt;
        value = ap (lookup (is_at (g.K.Ord.cmp c.args.key.now))) (sym c.self.view_is) ∙ lookup_of_chunk g.K.Ord.cmp c.args.key.now c.self.inside.groups.items c.group_of-at.result c.in_ok-group.group.now of here ∙ c.in-Ok.ensures.value;
        missing = λ e. cc;
      },
    )

pub returns-in-Err : goal.returns-in-Err
returns-in-Err g c =
    let of : IsChunkOf g.K.Ord.cmp c.args.key.now c.self.inside.groups.items c.group_of-at.result = search rules in
    let here : c.in_ok-group.group.now ≡ get_or c.self.inside.groups.items c.group_of-at.result c.in_ok-group.group.now = rw c.in_ok-group.ensures.value c.index_mut-group.ensures.value in (
      λ i. inr ((ap joined (set_here c.self.inside.groups.items c.group_of-at.result c.in_ok-group.group.now here) ∙ c.self.view_is) i),
      record {
        writes_back = tt;
        value = tt;
        missing = λ e. ap (lookup (is_at (g.K.Ord.cmp c.args.key.now))) (sym c.self.view_is) ∙ lookup_of_chunk g.K.Ord.cmp c.args.key.now c.self.inside.groups.items c.group_of-at.result c.in_ok-group.group.now of here ∙ c.in-Err.ensures.missing e;
      },
    )
