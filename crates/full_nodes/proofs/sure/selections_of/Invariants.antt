use Rattle.std.proofs.Common.{◌≡◌, ◌++◌, drop}
use Rattle.full_nodes.specs.Sure.{texts_of}
use Rattle.full_nodes.proofs.sure.selections_of.Given as goal

abbrev pub invariant-loop-wanted : goal.invariant-loop-wanted
invariant-loop-wanted l = l.selections ++ texts_of l.classes (drop l.wanted-index l.claims) ≡ texts_of l.classes l.claims
