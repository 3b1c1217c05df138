use Rattle.std.proofs.Common.{◌≡◌, drop}
use Rattle.std.specs.Prelude.{max}
use Rattle.pool_view.specs.Pools.{highest}
use Rattle.pool_view.proofs.sorting.highest.Given as goal

abbrev pub invariant-loop-slice : goal.invariant-loop-slice
invariant-loop-slice l = max l.highest (highest (drop l.slice-index l.slices)) ≡ highest l.slices
