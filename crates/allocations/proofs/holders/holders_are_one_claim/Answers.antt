use Rattle.allocations.proofs.Changes.{one_claim_holds}
use Rattle.allocations.proofs.holders.holders_are_one_claim.Goals as goal

pub returns : goal.returns
returns c = one_claim_holds
