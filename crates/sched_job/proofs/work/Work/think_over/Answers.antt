use Rattle.std.proofs.Common.{subst, sym}
use Rattle.ledger_core.specs.Ledger.{History}
use Rattle.sched_job.specs.Noted.{AreSince}
use Rattle.sched_job.proofs.Noting.{may_think, since_now}
use Rattle.sched_job.proofs.work.Work.think_over.Goals as goal

pub search-made-requires : goal.search-made-requires
search-made-requires g c = may_think c.args.ledger.now.entries _ _ c.requires c.take_notes-notes.ensures.notes

pub give_back-requires : goal.give_back-requires
give_back-requires g c =
    subst (λ (H : History). AreSince H.entries c.search-made.new.notes) (sym c.take_notes-notes.ensures.ledger)
    (since_now c.args.ledger.now.entries c.search-made.new.notes (c.search-made.ensures.notes c.args.ledger.now.entries c.requires c.take_notes-notes.ensures.notes))
