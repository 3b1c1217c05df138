use Rattle.walk.specs.Walk.{walk}
use Rattle.walk.proofs.Members.{In-from_contains, Contains-from_in}
use Rattle.walk.proofs.Each.{IsItem-from_walk, In-walk_from_item}
use Rattle.walk.proofs.walk_has_each_item.Goals as goal

pub returns-clause-only : goal.returns-clause-only
returns-clause-only c = λ p x i. IsItem-from_walk p x (In-from_contains (walk p) x i)

pub returns-clause-every : goal.returns-clause-every
returns-clause-every c = λ p x a. Contains-from_in (walk p) x (In-walk_from_item p x a)
