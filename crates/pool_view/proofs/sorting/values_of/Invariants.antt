use Rattle.std.proofs.Common.{◌≡◌, ◌++◌, drop, map}
use Rattle.pool_view.proofs.sorting.values_of.Given as goal

abbrev pub invariant-loop-slice : goal.invariant-loop-slice
invariant-loop-slice l = map (λ s. s.now) l.out.items ++ drop l.slice-index l.slices ≡ l.slices
