use Rattle.std.proofs.Common.{◌∙◌, ⊎_elim, refl, sym, ap}
use Rattle.cluster.specs.History.{job_state_of}
use Rattle.sched_job.specs.Moves.{move_of, stage_after}
use Rattle.histories.specs.JobRuns.{is_ended}
use Rattle.sched_job.proofs.Stepping.{extends_by, moved_limit, thought_again, thought_ended, went_turned}
use Rattle.sched_job.proofs.steps.go.Goals as goal

pub returns-in-Again-clause-went : goal.returns-in-Again-clause-went
returns-in-Again-clause-went g c =
    went_turned c.args.budget c.args.ledger.now c.turn.new.ledger c.args.work.now c.turn.new.self (ap is_ended (sym c.job_state.ensures) ∙ sym c.is_ended.ensures ∙ c.if-is_ended.false)
    (record {
      moves = c.in_ok-turn.ensures.ok;
      job = c.in_ok-turn.ensures.job;
      command = c.in_ok-turn.ensures.command;
      stage = ⊎_elim
          (λ again. thought_again c.args.budget (job_state_of c.turn.new.ledger.entries c.args.work.now.job) c.args.work.now.command (stage_after c.args.ledger.now.entries c.args.work.now) c.turn.new.self.stage (sym c.in_ok-turn.ensures.answer ∙ again) c.in_ok-turn.ensures.stage)
          (λ ended. thought_ended c.args.budget c.args.ledger.now c.turn.new.ledger c.args.work.now c.turn.new.self.stage ended.0 (move_of c.args.ledger.now.entries c.args.work.now) refl c.in_ok-turn.ensures.ok c.in_ok-turn.ensures.stage
          (ap is_ended (sym c.job_state.ensures) ∙ sym c.is_ended.ensures ∙ c.if-is_ended.false) (sym c.in_ok-turn.ensures.answer ∙ ended.1))
          c.in-Again.is;
    })

pub returns-in-Again-clause-extends : goal.returns-in-Again-clause-extends
returns-in-Again-clause-extends g c = extends_by c.args.ledger.now c.turn.new.ledger c.args.work.now.job (move_of c.args.ledger.now.entries c.args.work.now) c.in_ok-turn.ensures.ok

pub returns-in-Again-clause-limit : goal.returns-in-Again-clause-limit
returns-in-Again-clause-limit g c = moved_limit c.args.ledger.now c.turn.new.ledger c.args.work.now.job (move_of c.args.ledger.now.entries c.args.work.now) c.in_ok-turn.ensures.ok
