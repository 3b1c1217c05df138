use Rattle.std.proofs.Common.{sym}
use Rattle.sched_job.proofs.run.act_with.Goals as goal

pub act-turned-requires : goal.act-turned-requires
act-turned-requires g c = rw c.give_back.ensures.ledger c.requires.fits

pub returns-clause-ok : goal.returns-clause-ok
returns-clause-ok g c = rw (c.notes_for.ensures.ledger, sym c.give_back.ensures.ledger) c.act-turned.ensures.ok

pub returns-clause-stage : goal.returns-clause-stage
returns-clause-stage g c = rw (sym c.give_back.ensures.ledger) c.act-turned.ensures.stage

pub returns-clause-answer : goal.returns-clause-answer
returns-clause-answer g c = rw (c.notes_for.ensures.ledger) c.act-turned.ensures.answer

pub returns-clause-full : goal.returns-clause-full
returns-clause-full g c = rw (sym c.give_back.ensures.ledger) c.act-turned.ensures.full

pub returns-clause-err : goal.returns-clause-err
returns-clause-err g c = rw (c.notes_for.ensures.ledger, sym c.give_back.ensures.ledger) c.act-turned.ensures.err

pub returns-clause-running : goal.returns-clause-running
returns-clause-running g c = rw (c.notes_for.ensures.ledger, sym c.give_back.ensures.ledger) c.act-turned.ensures.running

pub returns-clause-legal : goal.returns-clause-legal
returns-clause-legal g c = rw (c.notes_for.ensures.ledger) c.act-turned.ensures.legal

pub returns-clause-present : goal.returns-clause-present
returns-clause-present g c = rw (c.notes_for.ensures.ledger) c.act-turned.ensures.present

pub returns-clause-notes : goal.returns-clause-notes
returns-clause-notes g c = rw c.notes_for.ensures.ledger c.notes_for.ensures.notes
