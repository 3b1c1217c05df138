use Rattle.histories.proofs.Claiming.{use_at, use_now}
use Rattle.histories.proofs.headline.pods_use_claims.Goals as goal

pub returns-clause-now : goal.returns-clause-now
returns-clause-now c = use_now c.same_is_equal.ensures.claims

pub returns-clause-always : goal.returns-clause-always
returns-clause-always c = use_at c.same_is_equal.ensures.claims
