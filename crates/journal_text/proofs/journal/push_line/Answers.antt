use Rattle.std.proofs.Common.{refl}
use Rattle.journal_text.proofs.Printed.{line_is}
use Rattle.journal_text.proofs.journal.push_line.Goals as goal

pub returns : goal.returns
returns c = line_is _ _ _ _ _ _ _ _ _ c.as_slice-from.ensures.value refl c.in_ok-push_entry.ensures c.clean_from.ensures c.push_text.ensures
