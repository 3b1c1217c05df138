use Rattle.std.proofs.Common.{◌≡◌, drop}
use Rattle.std.specs.List.{list_any}
use Rattle.pool_view.specs.Visibility.{sees_slice}
use Rattle.pool_view.proofs.seen.are_seen.Given as goal

abbrev pub invariant-loop-slice : goal.invariant-loop-slice
invariant-loop-slice l = list_any (sees_slice l.node) (drop l.slice-index l.slices) ≡ list_any (sees_slice l.node) l.slices
