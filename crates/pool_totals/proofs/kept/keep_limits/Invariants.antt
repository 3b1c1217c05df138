use Rattle.std.proofs.Common.{take}
use Rattle.pool_totals.specs.Counting.{AreWithinLimits}
use Rattle.pool_totals.proofs.kept.keep_limits.Given as goal

abbrev pub invariant-loop-slice : goal.invariant-loop-slice
invariant-loop-slice l = AreWithinLimits (take l.slice-index l.slices)
