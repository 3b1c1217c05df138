use Rattle.std.proofs.Common.{sym, subst}
use Rattle.sched_job.specs.Going.{Worked}
use Rattle.sched_job.proofs.Noting.{may_think, present_when, since_now}
use Rattle.sched_job.proofs.Sharing.{goes_again, goes_thinking, ok_of, works_ended, works_failed, works_unthought}
use Rattle.sched_job.proofs.run.go_on.Goals as goal

pub returns-in-Again-clause-on : goal.returns-in-Again-clause-on
returns-in-Again-clause-on g c = λ r began same going. goes_again c.histories_grow.ensures.job_state r began _ _ _ _ _ _ going c.take_turn-turned.ensures.took (ok_of _ _ _ c.in-Ok.is c.in-Again.is)

pub returns-in-Ok-think_with-clause-on : goal.returns-in-Ok-think_with-clause-on
returns-in-Ok-think_with-clause-on g c = λ r began same going.
    goes_thinking c.histories_grow.ensures.job_state r began _ _ _ _ _ _ _ _ going c.take_turn-turned.ensures.took (ok_of _ _ _ c.in-Ok.is c.in-Think.is) same c.think_with.ensures.job c.think_with.ensures.command c.in-Ok-think_with.ensures.thought (λ h. c.think_with.ensures.running r h same)

pub returns-in-Ended-clause-over : goal.returns-in-Ended-clause-over
returns-in-Ended-clause-over g c = λ r began same going. works_ended c.histories_grow.ensures.job_state r began _ _ _ _ _ _ _ going c.take_turn-turned.ensures.took (ok_of _ _ _ c.in-Ok.is c.in-Ended.is)

pub returns-in-Err-think_with-clause-over : goal.returns-in-Err-think_with-clause-over
returns-in-Err-think_with-clause-over g c = λ r began same going. works_unthought c.histories_grow.ensures.job_state r began _ _ _ _ _ _ going c.take_turn-turned.ensures.took (ok_of _ _ _ c.in-Ok.is c.in-Think.is)

pub returns-in-Err-clause-over : goal.returns-in-Err-clause-over
returns-in-Err-clause-over g c = λ r began same going.
    subst (Worked r began _) (sym c.end_for.ensures) (works_failed c.histories_grow.ensures.job_state r began _ _ _ _ _ _ _ c.requires.of.1 going c.take_turn-turned.ensures.took c.in-Err.is)

pub think_with-requires : goal.think_with-requires
think_with-requires g c =
    may_think c.take_turn-turned.new.pass.front _ _ (present_when _ _ _ _ (ok_of _ _ _ c.in-Ok.is c.in-Think.is) c.take_turn-turned.ensures.present) c.take_turn-turned.ensures.notes

pub returns-in-Again-clause-notes : goal.returns-in-Again-clause-notes
returns-in-Again-clause-notes g c = since_now _ _ c.take_turn-turned.ensures.notes

pub returns-in-Ended-clause-notes : goal.returns-in-Ended-clause-notes
returns-in-Ended-clause-notes g c = since_now _ _ c.take_turn-turned.ensures.notes

pub returns-in-Err-clause-notes : goal.returns-in-Err-clause-notes
returns-in-Err-clause-notes g c = since_now _ _ c.take_turn-turned.ensures.notes

pub returns-in-Ok-think_with-clause-notes : goal.returns-in-Ok-think_with-clause-notes
returns-in-Ok-think_with-clause-notes g c =
    since_now _ _
    (c.think_with.ensures.notes c.take_turn-turned.new.pass.front (present_when _ _ _ _ (ok_of _ _ _ c.in-Ok.is c.in-Think.is) c.take_turn-turned.ensures.present) c.take_turn-turned.ensures.notes)

pub returns-in-Err-think_with-clause-notes : goal.returns-in-Err-think_with-clause-notes
returns-in-Err-think_with-clause-notes g c =
    since_now _ _
    (c.think_with.ensures.notes c.take_turn-turned.new.pass.front (present_when _ _ _ _ (ok_of _ _ _ c.in-Ok.is c.in-Think.is) c.take_turn-turned.ensures.present) c.take_turn-turned.ensures.notes)
