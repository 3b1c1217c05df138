use Rattle.request_rules.proofs.Granted.{each_claim, each_result}
use Rattle.request_rules.proofs.laws.grants_have_all_results.Goals as goal

pub returns-clause-claims : goal.returns-clause-claims
returns-clause-claims c = λ w rs. each_claim w rs

pub returns-clause-results : goal.returns-clause-results
returns-clause-results c = λ w k rs a. each_result w k rs a
