use Rattle.histories.proofs.Limits.{kept_at, kept_now}
use Rattle.histories.proofs.headline.objects_keep_limits.Goals as goal

pub returns-clause-now : goal.returns-clause-now
returns-clause-now c = kept_now

pub returns-clause-always : goal.returns-clause-always
returns-clause-always c = kept_at
