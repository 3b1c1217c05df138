use Rattle.alloc_rules.proofs.Rising.{RisesSoFar}
use Rattle.alloc_rules.proofs.shape.rise.Given as goal

abbrev pub invariant-loop-at : goal.invariant-loop-at
invariant-loop-at l = RisesSoFar l.dues l.at
