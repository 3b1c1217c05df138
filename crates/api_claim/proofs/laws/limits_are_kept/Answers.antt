use Rattle.api_claim.proofs.Limits.{claim_kept, status_kept}
use Rattle.api_claim.proofs.laws.limits_are_kept.Goals as goal

pub returns-clause-claim : goal.returns-clause-claim
returns-clause-claim c = claim_kept c.metadata_keeps_limits.ensures c.tolerations_keep_limits.ensures

pub returns-clause-status : goal.returns-clause-status
returns-clause-status c = status_kept c.metadata_keeps_limits.ensures
