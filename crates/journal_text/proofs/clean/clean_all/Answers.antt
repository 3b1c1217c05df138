use Rattle.std.proofs.Common.{arith}
use Rattle.journal_text.proofs.Printed.{all_clean}
use Rattle.journal_text.proofs.clean.clean_all.Goals as goal

pub returns : goal.returns
returns c = all_clean c.loop-byte.bytes _ c.loop-byte.byte-index (omega arith) c.loop-byte.invariant
