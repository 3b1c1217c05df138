use Rattle.api_print.proofs.Statuses.{status_back}
use Rattle.api_print.proofs.laws.status_reads_back.Goals as goal

pub returns : goal.returns
returns c = status_back
