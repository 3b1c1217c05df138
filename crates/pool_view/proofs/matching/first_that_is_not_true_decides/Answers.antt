use Rattle.pool_view.proofs.Deciding.{all_true, true_all, no_found, no_stops, fault_found, fault_stops}
use Rattle.pool_view.proofs.matching.first_that_is_not_true_decides.Goals as goal

pub returns-clause-yes : goal.returns-clause-yes
returns-clause-yes c = λ d texts. (all_true d 0 texts, true_all d 0 texts)

pub returns-clause-no : goal.returns-clause-no
returns-clause-no c = λ d texts. (no_found d texts, no_stops d texts)

pub returns-clause-fault : goal.returns-clause-fault
returns-clause-fault c = λ d texts place cause. (fault_found d texts place cause, fault_stops d texts place cause)
