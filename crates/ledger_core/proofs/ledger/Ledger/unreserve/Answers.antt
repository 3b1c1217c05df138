use Rattle.std.proofs.Common.{ℕ, ◌≡◌, ◌∙◌, ◌+◌, length, subst, sym, ap, false}
use Rattle.counter_sets.specs.Holding.{AreHeld}
use Rattle.cluster.specs.declared.entry.Entry.{Entry}
use Rattle.cluster.specs.declared.entry.Event.TheVariants.{Unreserved}
use Rattle.cluster.specs.declared.state.State.{State}
use Rattle.cluster.specs.Events.{after}
use Rattle.cluster.specs.Freed.{without_uses}
use Rattle.cluster.specs.Held.{held}
use Rattle.pool_totals.specs.Counting.{AreCounted}
use Rattle.ledger_core.specs.Ledger.{History}
use Rattle.histories.specs.Legal.{Step}
use Rattle.ledger_core.proofs.Freeing.{freed_held}
use Rattle.allocations.specs.Lost.{lost_with}
use Rattle.ledger_core.specs.Remembered.{AreSet}
use Rattle.ledger_core.proofs.Keeping.{few_tries, kept_more, once_now}
use Rattle.ledger_core.proofs.Remembering.{remembers_more}
use Rattle.ledger_core.proofs.ledger.Ledger.unreserve.Goals as goal

pub invariant_of-self-2 : goal.invariant_of-self-2
invariant_of-self-2 c =
    let kept = c.self.invariant.0 in
    let room = c.in_ok-index.ensures in
    let e : Entry = record { job = c.args.job; event = Unreserved c.args.pod.now } in
    let step = subst (λ (h : History). Step h.entries e) (sym c.self.view_is) (record { allowed = c.requires.job_state; follows = c.requires.step }) in
    let freed = c.in_ok-pod.ensures in
    let made : c.free.new.state ≡ after (length c.self.inside.entries.items + 1) c.args.job (Unreserved c.args.pod.now) c.self.inside.state =
    freed.ok ∙ ap (λ (n : ℕ). without_uses n c.args.pod.now c.self.inside.state) room.index in
    let holds = freed_held c.self.inside.state (length c.self.inside.entries.items + 1) c.args.pod.now _ _ (once_now c.one_holder.ensures.now _ _ _ _ _ _ kept) kept.holders_are freed.left in
    let holders = subst (λ (s : State). AreHeld c.free.new.holders (held s)) (sym made) holds in
    rw (c.append.ensures.entries, room.entries, freed.kept) (
      kept_more _ e _ _ _ _ _ _ _ _ _ _ kept step room.within made holders (subst (λ (s : State). AreCounted s.inventory c.free.new.holders c.free.new.totals) (sym made) c.free.ensures.counted) room.job_states c.append.ensures.job_states,
      remembers_more c.memory_goes_on.ensures _ e _ _ _ _ _ _ _ _ kept c.self.invariant.1 step (subst (λ (n : ℕ). AreSet false (lost_with c.self.inside.state c.args.pod.now) n c.self.inside.dates c.free.new.dates) room.index freed.dated),
    )

pub returns-clause-legal : goal.returns-clause-legal
returns-clause-legal c = (invariant_of-self-2 c).0.legal

pub append-requires-clause-tries : goal.append-requires-clause-tries
append-requires-clause-tries c = few_tries _ _ _ _ _ _ _ c.args.job c.self.invariant.0 c.in_ok-index.ensures.job_states
