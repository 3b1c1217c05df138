use Rattle.std.proofs.Common.{drop}
use Rattle.allocator.proofs.Constraining.{FitsSo}
use Rattle.allocator.proofs.agreements.all_fit.Given as goal

abbrev pub invariant-loop-one : goal.invariant-loop-one
invariant-loop-one l = FitsSo l.claim l.picked l.agreements (drop l.one-index l.agreements)
