use Rattle.std.proofs.Common.{◌≡◌, ◌∙◌, ◌+◌, ℕ, List, length, subst, sym, ap}
use Rattle.counter_sets.specs.Holding.{AreHeld}
use Rattle.cluster.specs.declared.entry.Entry.{Entry}
use Rattle.cluster.specs.declared.entry.Event.TheVariants.{Bound}
use Rattle.cluster.specs.declared.state.State.{State}
use Rattle.cluster.specs.Bound.{with_bound}
use Rattle.cluster.specs.Events.{after}
use Rattle.cluster.specs.Held.{held}
use Rattle.cluster.specs.History.{state_of}
use Rattle.cluster.specs.State.{taken_node}
use Rattle.pool_totals.specs.Counting.{AreCounted}
use Rattle.ledger_core.specs.Ledger.{History}
use Rattle.histories.specs.Legal.{Step}
use Rattle.ledger_core.proofs.Freeing.{bound_held}
use Rattle.ledger_core.proofs.Keeping.{few_tries, kept_more}
use Rattle.ledger_core.proofs.Remembering.{remembers_more, unset}
use Rattle.ledger_core.proofs.ledger.Ledger.bind.Goals as goal

pub invariant_of-self-2 : goal.invariant_of-self-2
invariant_of-self-2 c =
    let kept = c.self.invariant.0 in
    let room = c.in_ok-index.ensures in
    let pod = c.args.pod.now in
    let n = taken_node (state_of c.self.inside.entries.items) pod in
    let e : Entry = record { job = c.args.job; event = Bound pod n } in
    let step =
    subst (λ (h : History). Step h.entries (record { job = c.args.job; event = Bound pod (taken_node (state_of h.entries) pod) })) (sym c.self.view_is)
    (record { allowed = c.requires.job_state; follows = c.requires.step }) in
    let bound = c.in_ok-pod.ensures in
    let node : taken_node c.self.inside.state pod ≡ n = ap (λ (s : State). taken_node s pod) kept.state_is in
    let made : c.bind.new.state ≡ after (length c.self.inside.entries.items + 1) c.args.job (Bound pod n) c.self.inside.state =
    bound.ok ∙ ap (λ (x : List ℕ). with_bound pod x c.self.inside.state) node in
    let holders = subst (λ (s : State). AreHeld c.self.inside.holders (held s)) (sym made) (bound_held c.self.inside.state pod n c.self.inside.holders kept.holders_are) in
    rw (c.append.ensures.entries, room.entries, bound.kept.0, bound.kept.1, node) (
      kept_more _ e _ _ _ _ _ _ _ _ _ _ kept step room.within made holders (subst (λ (s : State). AreCounted s.inventory c.self.inside.holders c.self.inside.totals) (sym made) kept.counted) room.job_states (rw room.entries at c.append.ensures.job_states),
      remembers_more c.memory_goes_on.ensures _ e _ _ _ _ _ _ _ _ kept c.self.invariant.1 step (unset _ _),
    )

pub returns-clause-legal : goal.returns-clause-legal
returns-clause-legal c = (invariant_of-self-2 c).0.legal

pub append-requires-clause-tries : goal.append-requires-clause-tries
append-requires-clause-tries c = few_tries _ _ _ _ _ _ _ c.args.job c.self.invariant.0 c.in_ok-index.ensures.job_states
