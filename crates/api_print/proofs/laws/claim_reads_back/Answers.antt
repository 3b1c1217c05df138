use Rattle.api_print.proofs.ClaimBack.{claim_back}
use Rattle.api_print.proofs.laws.claim_reads_back.Goals as goal

pub returns : goal.returns
returns c = claim_back
