use Rattle.request_rules.proofs.Found.{faulty, first_fault, found}
use Rattle.request_rules.proofs.laws.faults_are_first.Goals as goal

pub returns-clause-first : goal.returns-clause-first
returns-clause-first c = λ w k fault e. first_fault w k fault e

pub returns-clause-found : goal.returns-clause-found
returns-clause-found c = λ w k e. found w k e

pub returns-clause-faulty : goal.returns-clause-faulty
returns-clause-faulty c = λ w k s. faulty w k s
