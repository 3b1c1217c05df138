use Rattle.plan_rules.proofs.AdoptedOnce.{adopted_once}
use Rattle.plan_rules.proofs.holders.one_holder_is_kept.Goals as goal

pub returns-clause-reserved : goal.returns-clause-reserved
returns-clause-reserved c = λ s job pod plan holds h. c.grants_hold_once.ensures s job pod holds.state.pod.object plan holds.choice holds.allocation h

pub returns-clause-adopted : goal.returns-clause-adopted
returns-clause-adopted c = adopted_once c.grants_hold_once.ensures
