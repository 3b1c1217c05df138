use Rattle.walk.specs.Walk.{walk}
use Rattle.walk.proofs.Members.{In-from_contains, Contains-from_in}
use Rattle.walk.proofs.Filtered.{walk_is, no_longer, among, fault_goes_on, still_unsat}
use Rattle.walk.proofs.narrower.narrower_walks_are_parts.Goals as goal

pub returns-clause-items : goal.returns-clause-items
returns-clause-items c = walk_is

pub returns-clause-no_longer : goal.returns-clause-no_longer
returns-clause-no_longer c = no_longer

pub returns-clause-among : goal.returns-clause-among
returns-clause-among c = λ p q x h i. Contains-from_in (walk p) x (among p q x h (In-from_contains (walk q) x i))

pub returns-clause-faults : goal.returns-clause-faults
returns-clause-faults c = λ p q x h i m. Contains-from_in (walk q) x (fault_goes_on p q x h (In-from_contains (walk p) x i) m)

pub returns-clause-unsat : goal.returns-clause-unsat
returns-clause-unsat c = still_unsat
