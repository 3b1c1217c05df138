use Rattle.journal_text.proofs.Printed.{one_line}
use Rattle.journal_text.proofs.laws.line_is_one_line.Goals as goal

pub returns : goal.returns
returns c = λ place entry. one_line place entry
