use Rattle.std.proofs.Common.{◌≡◌, ◌++◌, drop}
use Rattle.full_nodes.specs.Sure.{known_of}
use Rattle.full_nodes.proofs.sure.known_of.Given as goal

abbrev pub invariant-loop-selection : goal.invariant-loop-selection
invariant-loop-selection l = l.known ++ known_of l.inventory.slices (drop l.selection-index l.selections) ≡ known_of l.inventory.slices l.selections
