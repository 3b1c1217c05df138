use Rattle.std.proofs.Common.{arith, ◌∙◌, ap, sym}
use Rattle.shared_map.proofs.Sorting.{above_here, below_here, found_here}
use Rattle.shared_map.proofs.chunk.find_entry.Goals as goal

pub loop-from-preserved-in-Less : goal.loop-from-preserved-in-Less
loop-from-preserved-in-Less g c =
    record {
      order = omega arith;
      within = omega arith;
      below = c.loop-from.invariant.below;
      above = above_here g.K.Ord.cmp g.met.K.Ord.total c.args.key.now c.args.entries.now _ c.index-entries-middle.result c.requires (omega arith) c.index-entries-middle.is (ap (λ e. g.K.Ord.cmp c.args.key.now e.0) c.index-entries-middle.is ∙ sym c.cmp.ensures ∙ c.in-Less.is);
    }

pub loop-from-preserved : goal.loop-from-preserved
loop-from-preserved g c =
    record {
      order = omega arith;
      within = c.loop-from.invariant.within;
      below = below_here g.K.Ord.cmp g.met.K.Ord.total c.args.key.now c.args.entries.now _ c.index-entries-middle.result c.requires (omega arith) c.index-entries-middle.is (ap (λ e. g.K.Ord.cmp c.args.key.now e.0) c.index-entries-middle.is ∙ sym c.cmp.ensures ∙ c.in-Greater.is);
      above = c.loop-from.invariant.above;
    }

pub returns-in-Equal-clause-hit : goal.returns-in-Equal-clause-hit
returns-in-Equal-clause-hit g c = found_here g.K.Ord.cmp g.met.K.Ord.total c.args.key.now c.args.entries.now _ c.index-entries-middle.result c.requires (omega arith) c.index-entries-middle.is (ap (λ e. g.K.Ord.cmp c.args.key.now e.0) c.index-entries-middle.is ∙ sym c.cmp.ensures ∙ c.in-Equal.is)
