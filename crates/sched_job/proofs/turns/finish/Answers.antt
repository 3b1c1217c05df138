use Rattle.std.proofs.Common.{◌∙◌, sym, ap}
use Rattle.cluster.specs.declared.state.State.{State}
use Rattle.cluster.specs.History.{state_of}
use Rattle.sched_job.specs.Moves.{due_of}
use Rattle.sched_job.proofs.Finishing.{may_bind, may_write}
use Rattle.sched_job.proofs.turns.finish.Goals as goal

pub write_status-requires-clause-step : goal.write_status-requires-clause-step
write_status-requires-clause-step c =
    may_write (state_of c.args.ledger.now.entries) c.args.job c.args.pod.now c.in-Write.claim (c.pods_use_claims.ensures.now c.args.ledger.now.entries c.len-len.ensures.legal)
    (ap (λ (s : State). due_of s c.args.job c.args.pod.now) (sym c.state.ensures) ∙ sym c.in_ok-due_of.ensures ∙ c.in-Write.is)

pub bind-requires-clause-step : goal.bind-requires-clause-step
bind-requires-clause-step c =
    may_bind (state_of c.args.ledger.now.entries) c.args.job c.args.pod.now (ap (λ (s : State). due_of s c.args.job c.args.pod.now) (sym c.state.ensures) ∙ sym c.in_ok-due_of.ensures ∙ c.in-Bind.is)
