use Rattle.std.proofs.Common.{subst, sym}
use Rattle.counter_sets.specs.Holding.{AreHeld}
use Rattle.cluster.specs.declared.entry.Entry.{Entry}
use Rattle.cluster.specs.declared.entry.Event.TheVariants.{Reserved}
use Rattle.cluster.specs.declared.state.State.{State}
use Rattle.cluster.specs.Held.{held}
use Rattle.pool_totals.specs.Counting.{AreCounted}
use Rattle.ledger_core.specs.Ledger.{History}
use Rattle.histories.specs.Legal.{Step}
use Rattle.ledger_core.proofs.Keeping.{few_tries, kept_more}
use Rattle.ledger_core.proofs.Taking.{taking}
use Rattle.ledger_core.proofs.Remembering.{remembers_more, unset}
use Rattle.ledger_core.proofs.ledger.Ledger.take.Goals as goal

pub invariant_of-self-2 : goal.invariant_of-self-2
invariant_of-self-2 c =
    let kept = c.self.invariant.0 in
    let room = c.in_ok-index.ensures in
    let e : Entry = record { job = c.args.job; event = Reserved c.args.pod.now c.args.plan.now } in
    let step = subst (λ (h : History). Step h.entries e) (sym c.self.view_is) (record { allowed = c.requires.job_state; follows = c.requires.reserved }) in
    let made = c.in_ok-pod.ensures in
    let holds = (taking c.one_holder.ensures.now _ _ _ _ _ _ kept c.args.job c.args.pod.now c.args.plan.now step).given _ _ kept.holders_are made.given in
    let holders = subst (λ (s : State). AreHeld c.reserve.new.holders (held s)) (sym made.ok) holds in
    rw (c.append.ensures.entries, room.entries, made.kept.0, made.kept.1) (
      kept_more _ e _ _ _ _ _ _ _ _ _ _ kept step room.within made.ok holders (subst (λ (s : State). AreCounted s.inventory c.reserve.new.holders c.reserve.new.totals) (sym made.ok) c.reserve.ensures.counted) room.job_states c.append.ensures.job_states,
      remembers_more c.memory_goes_on.ensures _ e _ _ _ _ _ _ _ _ kept c.self.invariant.1 step (unset _ _),
    )

pub returns-clause-legal : goal.returns-clause-legal
returns-clause-legal c = (invariant_of-self-2 c).0.legal

pub append-requires-clause-tries : goal.append-requires-clause-tries
append-requires-clause-tries c = few_tries _ _ _ _ _ _ _ c.args.job c.self.invariant.0 c.in_ok-index.ensures.job_states
