use Rattle.std.proofs.Common.{subst, sym, ℕ, []}
use Rattle.counter_sets.specs.Holding.{AreHeld}
use Rattle.cluster.specs.declared.entry.Entry.{Entry}
use Rattle.cluster.specs.declared.entry.Event.TheVariants.{Deleted}
use Rattle.cluster.specs.declared.state.State.{State}
use Rattle.cluster.specs.Held.{held}
use Rattle.ledger_core.specs.Ledger.{History}
use Rattle.histories.specs.Legal.{Step}
use Rattle.ledger_core.proofs.Freeing.{removed_held}
use Rattle.request_rules.specs.Lists.{add_some}
use Rattle.allocations.specs.Lost.{lost_of}
use Rattle.histories.specs.Growth.{names_searched}
use Rattle.ledger_core.specs.Remembered.{AreSet}
use Rattle.ledger_core.proofs.Keeping.{few_tries, kept_more, once_now}
use Rattle.ledger_core.proofs.Remembering.{remembers_more}
use Rattle.ledger_core.proofs.ledger.Ledger.take_away.Goals as goal

pub invariant_of-self-2 : goal.invariant_of-self-2
invariant_of-self-2 c =
    let kept = c.self.invariant.0 in
    let room = c.in_ok-index.ensures in
    let e : Entry = record { job = c.args.job; event = Deleted c.args.target.now } in
    let step = subst (λ (h : History). Step h.entries e) (sym c.self.view_is) (record { allowed = c.requires.job_state; follows = c.requires.deleted }) in
    let made = c.in_ok-target.ensures in
    let holds = removed_held c.self.inside.state c.args.target.now _ _ (once_now c.one_holder.ensures.now _ _ _ _ _ _ kept) kept.holders_are made.left in
    let holders = subst (λ (s : State). AreHeld c.remove.new.holders (held s)) (sym made.ok) holds in
    rw (c.append.ensures.entries, room.entries, made.kept) (
      kept_more _ e _ _ _ _ _ _ _ _ _ _ kept step room.within made.ok holders c.remove.ensures.counted room.job_states (rw room.entries at c.append.ensures.job_states),
      remembers_more c.memory_goes_on.ensures _ e _ _ _ _ _ _ _ _ kept c.self.invariant.1 step (subst (λ (n : ℕ). AreSet (names_searched c.args.target.now) (add_some (lost_of c.self.inside.state c.args.target.now) []) n c.self.inside.dates c.remove.new.dates) room.index made.dated),
    )

pub returns-clause-legal : goal.returns-clause-legal
returns-clause-legal c = (invariant_of-self-2 c).0.legal

pub append-requires-clause-tries : goal.append-requires-clause-tries
append-requires-clause-tries c = few_tries _ _ _ _ _ _ _ c.args.job c.self.invariant.0 c.in_ok-index.ensures.job_states
