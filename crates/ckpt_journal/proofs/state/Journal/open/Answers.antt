use Rattle.ckpt_journal.proofs.Keeping.{keeps}
use Rattle.ckpt_journal.proofs.Opens.{load_stopped}
use Rattle.ckpt_journal.proofs.state.Journal.open.Goals as goal

pub returns-in-Err-clause-stopped : goal.returns-in-Err-clause-stopped
returns-in-Err-clause-stopped g c = load_stopped _ _ c.in-Err.ensures.handed

pub returns-in-Ok-start-clause-kept : goal.returns-in-Ok-start-clause-kept
returns-in-Ok-start-clause-kept g c = keeps c.in-Ok-start.opened.rows.items c.in-Ok-start.opened.halves c.in-Ok-start.opened.end _ c.in-Ok-start.ensures.settled
