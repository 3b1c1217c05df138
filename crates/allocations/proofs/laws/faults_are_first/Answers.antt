use Rattle.allocations.proofs.Walks.{first_on}
use Rattle.allocations.proofs.laws.faults_are_first.Goals as goal

pub returns : goal.returns
returns c = first_on c.faults_are_first.ensures.first
