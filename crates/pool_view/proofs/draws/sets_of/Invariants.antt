use Rattle.std.proofs.Common.{◌≡◌, ◌++◌, drop}
use Rattle.pool_view.specs.Pools.{sets_of}
use Rattle.pool_view.proofs.draws.sets_of.Given as goal

abbrev pub invariant-loop-slice : goal.invariant-loop-slice
invariant-loop-slice l = l.sets.items ++ sets_of (drop l.slice-index l.slices) ≡ sets_of l.slices
