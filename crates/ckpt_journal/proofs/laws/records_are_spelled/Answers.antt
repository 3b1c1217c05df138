use Rattle.ckpt_journal.proofs.Read.{gates_again}
use Rattle.ckpt_journal.proofs.Spelled.{spelled}
use Rattle.ckpt_journal.proofs.laws.records_are_spelled.Goals as goal

pub returns-clause-spelled : goal.returns-clause-spelled
returns-clause-spelled c = λ rs gate tail fits shut. gates_again rs gate tail fits shut

pub returns-clause-read : goal.returns-clause-read
returns-clause-read c = λ rs bytes small is. spelled bytes rs small is
