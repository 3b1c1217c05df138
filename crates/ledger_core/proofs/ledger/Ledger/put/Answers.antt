use Rattle.std.proofs.Common.{◌≡◌, ◌∙◌, ◌+◌, length, subst, sym, ap, []}
use Rattle.counter_sets.specs.Holding.{AreHeld}
use Rattle.cluster.specs.declared.entry.Entry.{Entry}
use Rattle.cluster.specs.declared.entry.Event.TheVariants.{Applied}
use Rattle.cluster.specs.declared.object.Object.{Object}
use Rattle.cluster.specs.declared.state.State.{State}
use Rattle.cluster.specs.Applied.{with_object}
use Rattle.cluster.specs.Events.{after}
use Rattle.cluster.specs.Held.{held}
use Rattle.ledger_core.specs.Ledger.{History}
use Rattle.histories.specs.Legal.{Step}
use Rattle.ledger_core.proofs.Freeing.{applied_held}
use Rattle.histories.specs.Growth.{is_searched}
use Rattle.ledger_core.specs.Remembered.{AreSet}
use Rattle.ledger_core.proofs.Keeping.{few_tries, kept_more}
use Rattle.ledger_core.proofs.Remembering.{remembers_more}
use Rattle.ledger_core.proofs.ledger.Ledger.put.Goals as goal

pub invariant_of-self-2 : goal.invariant_of-self-2
invariant_of-self-2 c =
    let kept = c.self.invariant.0 in
    let parts = c.into_parts-object.ensures in
    let e : Entry = record { job = c.args.job; event = Applied c.args.ready c.args.mode } in
    let step = subst (λ (h : History). Step h.entries e) (sym c.self.view_is) (record { allowed = c.requires.job_state; follows = c.requires.applied }) in
    let placed = c.in_ok-index.ensures in
    let made : c.put_object.new.state ≡ after (length c.self.inside.entries.items + 1) c.args.job (Applied c.args.ready c.args.mode) c.self.inside.state =
    placed.ok ∙ ap (λ (x : Object). with_object (length c.self.inside.entries.items + 1) x c.self.inside.state) parts.kept.same in
    let holders = subst (λ (s : State). AreHeld c.self.inside.holders (held s)) (sym made) (applied_held c.self.inside.state (length c.self.inside.entries.items + 1) c.args.ready c.self.inside.holders kept.holders_are) in
    rw (c.append.ensures.entries, c.put_object.ensures.entries, parts.object) (
      kept_more _ e _ _ _ _ _ _ _ _ _ _ kept step placed.within made holders c.put_object.ensures.counted c.put_object.ensures.job_states (rw c.put_object.ensures.entries at c.append.ensures.job_states),
      remembers_more c.memory_goes_on.ensures _ e _ _ _ _ _ _ _ _ kept c.self.invariant.1 step (subst (λ (x : Object). AreSet (is_searched x) [] (length c.self.inside.entries.items + 1) c.self.inside.dates c.put_object.new.dates) parts.kept.same placed.dated),
    )

pub returns-clause-legal : goal.returns-clause-legal
returns-clause-legal c = (invariant_of-self-2 c).0.legal

pub append-requires-clause-tries : goal.append-requires-clause-tries
append-requires-clause-tries c = few_tries _ _ _ _ _ _ _ c.args.job c.self.invariant.0 c.put_object.ensures.job_states
