use Rattle.std.proofs.Common.{◌∙◌, sym, ap}
use Rattle.pool_view.specs.Names.{at_key}
use Rattle.cluster.specs.declared.state.State.{State}
use Rattle.cluster.specs.History.{state_of}
use Rattle.sched_job.specs.Moves.{taken_by}
use Rattle.sched_job.proofs.Finishing.{may_unreserve}
use Rattle.sched_job.proofs.turns.give_up.Goals as goal

pub unreserve-requires-clause-step : goal.unreserve-requires-clause-step
unreserve-requires-clause-step c =
    may_unreserve (state_of c.args.ledger.now.entries) c.args.job c.args.pod.now
    (ap (λ (s : State). taken_by c.args.job (at_key s.pods c.args.pod.now)) (sym c.state.ensures) ∙ sym c.is_taken.ensures ∙ c.if-is_taken.true)
