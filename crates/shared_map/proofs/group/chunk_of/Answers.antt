use Rattle.std.proofs.Common.{◌<◌, ◌+◌, ◌-◌, ◌/◌, ◌∙◌, [], length, ap, sym, arith}
use Rattle.shared_map.specs.Chunks.{begins_above}
use Rattle.shared_map.proofs.Joining.{above_chunk, below_chunk}
use Rattle.shared_map.proofs.Sorting.{at_any}
use Rattle.shared_map.proofs.group.chunk_of.Goals as goal

pub loop-to-preserved-then-begins_above : goal.loop-to-preserved-then-begins_above
loop-to-preserved-then-begins_above g c =
    let middle = c.loop-to.from + (c.loop-to.to - c.loop-to.from) / 2 in
    let here : middle < length c.args.chunks.now = omega arith in
    let chunk = at_any c.args.chunks.now middle c.index-chunks-middle.result [] here c.index-chunks-middle.is ∙ sym c.deref.ensures in
    let test = ap (begins_above g.K.Ord.cmp c.args.key.now) chunk ∙ sym c.begins_above.ensures ∙ c.if-begins_above.true in
    record {
      order = omega arith;
      within = omega arith;
      below = c.loop-to.invariant.below;
      above = above_chunk g.K.Ord.cmp g.met.K.Ord.total c.args.key.now c.args.chunks.now middle c.requires.chunks here test;
    }

pub loop-to-preserved : goal.loop-to-preserved
loop-to-preserved g c =
    let middle = c.loop-to.from + (c.loop-to.to - c.loop-to.from) / 2 in
    let here : middle < length c.args.chunks.now = omega arith in
    let chunk = at_any c.args.chunks.now middle c.index-chunks-middle.result [] here c.index-chunks-middle.is ∙ sym c.deref.ensures in
    let test = ap (begins_above g.K.Ord.cmp c.args.key.now) chunk ∙ sym c.begins_above.ensures ∙ c.if-begins_above.false in
    record {
      order = omega arith;
      within = c.loop-to.invariant.within;
      below = below_chunk g.K.Ord.cmp g.met.K.Ord.total c.args.key.now c.args.chunks.now middle c.requires.chunks here test;
      above = c.loop-to.invariant.above;
    }
