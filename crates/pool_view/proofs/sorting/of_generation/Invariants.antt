use Rattle.std.proofs.Common.{◌≡◌, ◌++◌, drop}
use Rattle.pool_view.specs.Pools.{of_generation}
use Rattle.pool_view.proofs.sorting.of_generation.Given as goal

abbrev pub invariant-loop-slice : goal.invariant-loop-slice
invariant-loop-slice l = l.out.items ++ of_generation l.generation (drop l.slice-index l.slices) ≡ of_generation l.generation l.slices
