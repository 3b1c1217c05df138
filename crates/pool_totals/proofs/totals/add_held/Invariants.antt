use Rattle.std.proofs.Common.{drop}
use Rattle.pool_totals.specs.Adding.{HasRoom, IsAdding}
use Rattle.pool_totals.proofs.totals.add_held.Given as goal

abbrev pub invariant-loop-slice : goal.invariant-loop-slice
invariant-loop-slice l = HasRoom l.holders (drop l.slice-index l.slices) l.totals × IsAdding l.holders l.slices (drop l.slice-index l.slices) l.fn.totals l.totals
