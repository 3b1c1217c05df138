use Rattle.std.proofs.Common.{◌≡◌, drop}
use Rattle.pool_totals.specs.Counting.{found_in}
use Rattle.pool_totals.proofs.kept.found_in.Given as goal

abbrev pub invariant-loop-slice : goal.invariant-loop-slice
invariant-loop-slice l = found_in l.id (drop l.slice-index l.slices) ≡ found_in l.id l.slices
