use Rattle.histories.proofs.Using.{busy_at, busy_now, idle_now}
use Rattle.histories.proofs.headline.users_are_busy.Goals as goal

pub returns-clause-now : goal.returns-clause-now
returns-clause-now c = busy_now c.same_is_equal.ensures.claims

pub returns-clause-always : goal.returns-clause-always
returns-clause-always c = busy_at c.same_is_equal.ensures.claims

pub returns-clause-idle : goal.returns-clause-idle
returns-clause-idle c = idle_now c.same_is_equal.ensures.claims
