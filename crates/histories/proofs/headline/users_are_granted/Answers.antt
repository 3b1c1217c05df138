use Rattle.histories.proofs.Granting.{adopted_unused, granted_at, granted_now}
use Rattle.histories.proofs.headline.users_are_granted.Goals as goal

pub returns-clause-now : goal.returns-clause-now
returns-clause-now c = granted_now c.same_is_equal.ensures.claims

pub returns-clause-always : goal.returns-clause-always
returns-clause-always c = granted_at c.same_is_equal.ensures.claims

pub returns-clause-adopted : goal.returns-clause-adopted
returns-clause-adopted c = adopted_unused c.same_is_equal.ensures.claims
