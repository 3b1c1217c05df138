use Rattle.std.proofs.Common.{ap, refl}
use Rattle.sched_job.proofs.Sharing.{going_new}
use Rattle.sched_job.proofs.run.run_on.Goals as goal

pub loop-init : goal.loop-init
loop-init g c = (c.requires.of, going_new _ _ _ c.requires.free c.requires.ready c.requires.attempts, c.requires.notes)

pub returns-in-Some-go_on-clause-free : goal.returns-in-Some-go_on-clause-free
returns-in-Some-go_on-clause-free g c = ap (λ k. k.turn) (c.in-Some-go_on.ensures.over _ _ refl c.loop.invariant.1).did.is
