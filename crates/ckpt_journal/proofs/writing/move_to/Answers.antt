use Rattle.std.proofs.Common.{rules}
use Rattle.ckpt_journal.proofs.Keeping.{move_done}
use Rattle.ckpt_journal.proofs.writing.move_to.Goals as goal

pub returns-clause-ok : goal.returns-clause-ok
returns-clause-ok g c =
    move_done c.args.base c.args.halves.now _ _ _ _ _ _ (search rules) c.in_ok-cut_to.ensures.ok c.in_ok-put.ensures.ok c.in_ok-put-2.ensures.ok c.in_ok-put-3.ensures.ok
