use Rattle.histories.proofs.Uids.{same_claims}
use Rattle.histories.proofs.headline.uids_keep_claims.Goals as goal

pub returns : goal.returns
returns c = same_claims c.same_is_equal.ensures.claims
