use Rattle.std.proofs.Common.{◌≡◌, ◌++◌, drop}
use Rattle.pool_view.proofs.learning.share_lists.Given as goal

abbrev pub invariant-loop-list : goal.invariant-loop-list
invariant-loop-list l = l.shared.items ++ drop l.list-index l.known ≡ l.known
