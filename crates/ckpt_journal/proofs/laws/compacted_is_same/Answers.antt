use Rattle.ckpt_journal.specs.Table.{table}
use Rattle.ckpt_journal.proofs.Tables.{compact_again, made}
use Rattle.ckpt_journal.proofs.laws.compacted_is_same.Goals as goal

pub returns : goal.returns
returns c = λ rs fits. compact_again (table rs) (made rs fits).0.0
