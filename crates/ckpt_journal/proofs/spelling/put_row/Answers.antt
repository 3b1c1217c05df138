use Rattle.ckpt_journal.proofs.Tables.{row_short}
use Rattle.ckpt_journal.proofs.spelling.put_row.Goals as goal

pub put_set-requires-clause-long : goal.put_set-requires-clause-long
put_set-requires-clause-long c = row_short c.args.row.now.state c.args.row.now.claim c.requires
