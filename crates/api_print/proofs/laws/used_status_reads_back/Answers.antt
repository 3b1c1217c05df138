use Rattle.api_print.proofs.Statuses.{status_left_out, status_refused}
use Rattle.api_print.proofs.laws.used_status_reads_back.Goals as goal

pub returns : goal.returns
returns c = record { left_out = status_left_out; refused = status_refused }
