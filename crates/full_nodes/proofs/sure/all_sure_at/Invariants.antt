use Rattle.std.proofs.Common.{◌≡◌, true, drop}
use Rattle.full_nodes.specs.Sure.{all_sure_at}
use Rattle.full_nodes.proofs.sure.all_sure_at.Given as goal

abbrev pub invariant-loop-list : goal.invariant-loop-list
invariant-loop-list l = all_sure_at (drop l.list-index l.known) l.slice ≡ true → all_sure_at l.known l.slice ≡ true
