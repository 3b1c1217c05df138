use Rattle.walk.specs.Walk.{walk}
use Rattle.walk.proofs.Exact.{Sorted-walk}
use Rattle.walk.proofs.Strict.{IsBefore-irreflexive, IsBefore-transitive, InOrder-from_sorted}
use Rattle.walk.proofs.walk_is_in_order.Goals as goal

pub returns-clause-irreflexive : goal.returns-clause-irreflexive
returns-clause-irreflexive c = IsBefore-irreflexive

pub returns-clause-transitive : goal.returns-clause-transitive
returns-clause-transitive c = IsBefore-transitive

pub returns-clause-ordered : goal.returns-clause-ordered
returns-clause-ordered c = λ p. InOrder-from_sorted (walk p) (Sorted-walk p)
