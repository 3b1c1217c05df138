use Rattle.std.proofs.Common.{ℕ, ◌≡◌, ◌∙◌, ◌+◌, length, subst, sym, ap}
use Rattle.counter_sets.specs.Holding.{AreHeld}
use Rattle.cluster.specs.declared.entry.Entry.{Entry}
use Rattle.cluster.specs.declared.entry.Event.TheVariants.{Adopted}
use Rattle.cluster.specs.declared.state.State.{State}
use Rattle.cluster.specs.Adopted.{with_adopted}
use Rattle.cluster.specs.Events.{after}
use Rattle.cluster.specs.Held.{held}
use Rattle.pool_totals.specs.Counting.{AreCounted}
use Rattle.ledger_core.specs.Ledger.{History}
use Rattle.histories.specs.Legal.{Step}
use Rattle.ledger_core.proofs.Keeping.{few_tries, kept_more}
use Rattle.ledger_core.proofs.Taking.{adopting}
use Rattle.ledger_core.proofs.Remembering.{remembers_more, unset}
use Rattle.ledger_core.proofs.ledger.Ledger.make_grant.Goals as goal

pub invariant_of-self-2 : goal.invariant_of-self-2
invariant_of-self-2 c =
    let kept = c.self.invariant.0 in
    let room = c.in_ok-index.ensures in
    let e : Entry = record { job = c.args.job; event = Adopted c.args.claim.now c.args.status } in
    let step = subst (λ (h : History). Step h.entries e) (sym c.self.view_is) (record { allowed = c.requires.job_state; follows = c.requires.adopted }) in
    let grant = c.in_ok-claim.ensures in
    let made : c.adopt.new.state ≡ after (length c.self.inside.entries.items + 1) c.args.job (Adopted c.args.claim.now c.args.status) c.self.inside.state =
    (rw c.value.ensures at grant.ok) ∙ ap (λ (n : ℕ). with_adopted n c.args.claim.now c.args.status c.self.inside.state) room.index in
    let holds = (adopting c.one_holder.ensures.now _ _ _ _ _ _ kept c.args.job c.args.claim.now c.args.status step).given _ _ kept.holders_are (rw c.value.ensures at grant.given) in
    let holders = subst (λ (s : State). AreHeld c.adopt.new.holders (held s)) (sym made) holds in
    rw (c.append.ensures.entries, room.entries, grant.kept) (
      kept_more _ e _ _ _ _ _ _ _ _ _ _ kept step room.within made holders (subst (λ (s : State). AreCounted s.inventory c.adopt.new.holders c.adopt.new.totals) (sym made) c.adopt.ensures.counted) room.job_states (rw room.entries at c.append.ensures.job_states),
      remembers_more c.memory_goes_on.ensures _ e _ _ _ _ _ _ _ _ kept c.self.invariant.1 step (unset _ _),
    )

pub returns-clause-legal : goal.returns-clause-legal
returns-clause-legal c = (invariant_of-self-2 c).0.legal

pub append-requires-clause-tries : goal.append-requires-clause-tries
append-requires-clause-tries c = few_tries _ _ _ _ _ _ _ c.args.job c.self.invariant.0 c.in_ok-index.ensures.job_states
