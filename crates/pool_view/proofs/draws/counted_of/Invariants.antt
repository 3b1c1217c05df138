use Rattle.std.proofs.Common.{◌≡◌, ◌++◌, drop, filter}
use Rattle.pool_view.specs.Usable.{is_counted}
use Rattle.pool_view.proofs.draws.counted_of.Given as goal

abbrev pub invariant-loop-slice : goal.invariant-loop-slice
invariant-loop-slice l = l.counted ++ filter is_counted (drop l.slice-index l.slices) ≡ filter is_counted l.slices
