use Rattle.std.proofs.Common.{◌≡◌, ◌++◌}
use Rattle.pool_view.proofs.sorting.append.Given as goal

abbrev pub invariant-loop-slice : goal.invariant-loop-slice
invariant-loop-slice l = l.to ++ l.slice-iterator.rest.items ≡ l.fn.to ++ l.fn.slices.items
