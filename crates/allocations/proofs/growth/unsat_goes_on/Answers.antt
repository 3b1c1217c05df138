use Rattle.allocations.proofs.Growths.{claims_later, none_later, unsat_later}
use Rattle.allocations.proofs.growth.unsat_goes_on.Goals as goal

pub returns-clause-outcome : goal.returns-clause-outcome
returns-clause-outcome c = unsat_later c.matches_are_by_selectors.ensures c.fuller_inputs_are_narrower.ensures.unsat

pub returns-clause-found : goal.returns-clause-found
returns-clause-found c = none_later c.matches_are_by_selectors.ensures c.fuller_inputs_are_narrower.ensures.unsat

pub returns-clause-claims : goal.returns-clause-claims
returns-clause-claims c = claims_later c.matches_are_by_selectors.ensures c.fuller_inputs_are_narrower.ensures.unsat
