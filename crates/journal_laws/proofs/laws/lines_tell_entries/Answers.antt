use Rattle.journal_laws.proofs.Lines.{line_decided, line_index, line_job, line_kind}
use Rattle.journal_laws.proofs.laws.lines_tell_entries.Goals as goal

pub returns-clause-kind : goal.returns-clause-kind
returns-clause-kind c = line_kind

pub returns-clause-index : goal.returns-clause-index
returns-clause-index c = line_index

pub returns-clause-job : goal.returns-clause-job
returns-clause-job c = line_job

pub returns-clause-decided : goal.returns-clause-decided
returns-clause-decided c = line_decided
