use Rattle.std.proofs.Common.{refl, inl}
use Rattle.shared_map.proofs.Hitting.{set_hit, lookup_hit, lookup_gap}
use Rattle.shared_map.proofs.chunk.Chunk.get_mut.Goals as goal

pub returns-in-Ok : goal.returns-in-Ok
returns-in-Ok g c =
    let hit = c.in-Ok.ensures.hit in (
      λ i. inl (c.value_mut.result.ghost_name, λ w. (set_hit g.K.Ord.cmp c.args.key.now w c.args.self.now c.in-Ok.at hit.within hit.below hit.equal) i),
      record {
        writes_back = tt;
        value = lookup_hit g.K.Ord.cmp c.args.key.now c.args.self.now c.in-Ok.at c.value_mut.result.now hit.within hit.below hit.equal c.value_mut.ensures.value;
        missing = λ e. cc;
      },
    )

pub returns-in-Err : goal.returns-in-Err
returns-in-Err g c =
    let gap = c.in-Err.ensures.gap in
    (refl, record { writes_back = tt; value = tt; missing = λ e. lookup_gap g.K.Ord.cmp c.args.key.now c.args.self.now c.in-Err.field-0 gap.below gap.above })
