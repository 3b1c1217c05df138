use Rattle.histories.proofs.GrowthDates.{found_since, grown_since}
use Rattle.histories.proofs.growth.nodes_stay_without_allocation.Goals as goal

pub returns-clause-grown : goal.returns-clause-grown
returns-clause-grown c = grown_since c.held_since_dates.ensures.objects c.held_since_dates.ensures.pool c.growth_adds_up.ensures.pools

pub returns-clause-found : goal.returns-clause-found
returns-clause-found c = found_since c.held_since_dates.ensures.objects c.held_since_dates.ensures.pool c.growth_adds_up.ensures.pools c.unsat_goes_on.ensures.found
