use Rattle.std.proofs.Common.{ap, ◌∙◌}
use Rattle.sched_job.proofs.Noting.{since_longer}
use Rattle.sched_job.proofs.Taking.{took, turn_grows, turn_limit}
use Rattle.sched_job.proofs.run.take_turn.Goals as goal

pub leave-requires-clause-turn : goal.leave-requires-clause-turn
leave-requires-clause-turn g c = (_, ap (λ p. p.turn) c.enter-turn.ensures.pass, turn_grows c.act_with-turned.result.next _ _ _ _ _ c.state.ensures.value c.act_with-turned.ensures.ok c.act_with-turned.ensures.err)

pub leave-requires-clause-number : goal.leave-requires-clause-number
leave-requires-clause-number g c = turn_limit c.act_with-turned.result.next _ _ _ _ _ c.state.ensures.value c.act_with-turned.ensures.ok c.act_with-turned.ensures.err ∙ c.enter-turn.ensures.number

pub returns-clause-took : goal.returns-clause-took
returns-clause-took g c =
    let a = c.act_with-turned.ensures in
    took _ _ _ _ _ _ _ _ _ c.act_with-turned.result.next c.state.ensures.value c.enter-turn.ensures.pass c.enter-turn.ensures.begins c.enter-turn.ensures.number c.leave.ensures.pass a.job a.command a.ok a.stage a.answer a.err a.full a.running a.legal

pub act_with-turned-requires-clause-notes : goal.act_with-turned-requires-clause-notes
act_with-turned-requires-clause-notes g c = since_longer _ _ _ (rw c.state.ensures.value c.enter-turn.ensures.begins) c.requires.notes

pub returns-clause-present : goal.returns-clause-present
returns-clause-present g c = rw c.leave.ensures.pass c.act_with-turned.ensures.present

pub returns-clause-notes : goal.returns-clause-notes
returns-clause-notes g c = rw c.leave.ensures.pass c.act_with-turned.ensures.notes
