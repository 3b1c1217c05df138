use Rattle.ready_objects.proofs.Decided.{claim_decided, class_decided}
use Rattle.ready_objects.proofs.laws.selectors_decide.Goals as goal

pub returns-clause-class : goal.returns-clause-class
returns-clause-class c = class_decided

pub returns-clause-claim : goal.returns-clause-claim
returns-clause-claim c = claim_decided
