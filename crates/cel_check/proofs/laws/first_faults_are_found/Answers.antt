use Rattle.cel_check.proofs.Faults.{fault_back, fault_found}
use Rattle.cel_check.proofs.laws.first_faults_are_found.Goals as goal

pub returns-clause-found : goal.returns-clause-found
returns-clause-found c = λ names t f h. fault_found c.types_are_found.ensures.found h

pub returns-clause-sound : goal.returns-clause-sound
returns-clause-sound c = λ names t f e. fault_back c.types_are_found.ensures.sound names t f e
