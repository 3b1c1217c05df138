use Rattle.allocations.proofs.Growths.{lacking_found, lacking_used}
use Rattle.allocations.proofs.growth.lacking_is_found.Goals as goal

pub returns-clause-found : goal.returns-clause-found
returns-clause-found c = lacking_found c.unsat_goes_on.ensures.claims c.growth_adds_up.ensures.none

pub returns-clause-used : goal.returns-clause-used
returns-clause-used c = lacking_used
