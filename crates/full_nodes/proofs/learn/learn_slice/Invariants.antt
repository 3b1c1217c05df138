use Rattle.std.proofs.Common.{◌≡◌}
use Rattle.full_nodes.proofs.learn.learn_slice.Given as goal

abbrev pub invariant-loop-selection : goal.invariant-loop-selection
invariant-loop-selection l = l.inventory ≡ l.fn.inventory
