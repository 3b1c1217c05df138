use Rattle.std.proofs.Common.{◌≡◌, ◌++◌, drop, filter, map}
use Rattle.pool_view.specs.Usable.{is_counted}
use Rattle.pool_view.proofs.sorting.counted_among.Given as goal

abbrev pub invariant-loop-slice : goal.invariant-loop-slice
invariant-loop-slice l = map (λ s. s.now) l.out.items ++ filter is_counted (drop l.slice-index l.slices) ≡ filter is_counted l.slices
