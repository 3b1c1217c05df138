use Rattle.std.proofs.Common.{◌≡◌}
use Rattle.full_nodes.proofs.learn.learn_each.Given as goal

abbrev pub invariant-loop-name : goal.invariant-loop-name
invariant-loop-name l = l.inventory ≡ l.fn.inventory
