use Rattle.std.proofs.Common.{◌≡◌, ◌==◌, drop, length}
use Rattle.std.specs.List.{list_all}
use Rattle.pool_view.specs.Pools.{counts_of}
use Rattle.pool_view.proofs.sorting.are_complete.Given as goal

abbrev pub invariant-loop-slice : goal.invariant-loop-slice
invariant-loop-slice l = record {
  rest : list_all (λ n. n == length (counts_of l.slices)) (counts_of (drop l.slice-index l.slices)) ≡ list_all (λ n. n == length (counts_of l.slices)) (counts_of l.slices);
  count : l.count ≡ length (counts_of l.slices);
}
