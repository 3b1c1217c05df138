use Rattle.std.proofs.Common.{drop}
use Rattle.pool_totals.proofs.Adding.{IsFilling}
use Rattle.pool_totals.proofs.totals.undrawn.Given as goal

abbrev pub invariant-loop-slice : goal.invariant-loop-slice
invariant-loop-slice l = IsFilling l.slices (drop l.slice-index l.slices) l.totals
