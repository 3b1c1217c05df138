use Rattle.std.proofs.Common.{◌≡◌, ◌++◌, drop}
use Rattle.pool_view.proofs.kept.share_all.Given as goal

abbrev pub invariant-loop-slice : goal.invariant-loop-slice
invariant-loop-slice l = l.shared ++ drop l.slice-index l.slices ≡ l.slices
