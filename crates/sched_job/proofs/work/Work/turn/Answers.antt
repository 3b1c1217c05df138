use Rattle.std.proofs.Common.{refl}
use Rattle.std.specs.Prelude.{[]}
use Rattle.sched_job.specs.declared.work.Work.{Work}
use Rattle.sched_job.specs.Moves.{move_of}
use Rattle.sched_job.proofs.Runnings.{running_turned}
use Rattle.sched_job.proofs.work.Work.turn.Goals as goal

pub returns-clause-running : goal.returns-clause-running
returns-clause-running g c = λ r running.
    let w : Work = c.args.self.now in
    running_turned c.histories_grow.ensures.job_state (λ prefix e legal. c.legal_steps.ensures.step prefix e [] legal) r c.args.ledger.now c.step.new.ledger w (record w { stage = c.in_ok-self.field-0 }) (move_of c.args.ledger.now.entries w) refl c.in_ok-self.ensures.ok refl refl c.in_ok-self.ensures.stage c.len-len.ensures.legal running
