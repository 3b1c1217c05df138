use Rattle.std.proofs.Common.{◌≡◌, ◌∙◌, ◌+◌, ℕ, length, subst, sym, ap}
use Rattle.counter_sets.specs.Holding.{AreHeld}
use Rattle.cluster.specs.declared.entry.Entry.{Entry}
use Rattle.cluster.specs.declared.entry.Event.TheVariants.{Wrote}
use Rattle.cluster.specs.declared.state.State.{State}
use Rattle.cluster.specs.Events.{after}
use Rattle.cluster.specs.Held.{held}
use Rattle.cluster.specs.History.{state_of}
use Rattle.cluster.specs.State.{version_of}
use Rattle.cluster.specs.Wrote.{with_written}
use Rattle.pool_totals.specs.Counting.{AreCounted}
use Rattle.ledger_core.specs.Ledger.{History}
use Rattle.histories.specs.Legal.{Step}
use Rattle.ledger_core.proofs.Freeing.{written_held}
use Rattle.ledger_core.proofs.Keeping.{few_tries, kept_more}
use Rattle.ledger_core.proofs.Remembering.{remembers_more, unset}
use Rattle.ledger_core.proofs.ledger.Ledger.write.Goals as goal

pub invariant_of-self-2 : goal.invariant_of-self-2
invariant_of-self-2 c =
    let kept = c.self.invariant.0 in
    let room = c.in_ok-index.ensures in
    let pod = c.args.pod.now in
    let claim = c.args.claim.now in
    let n = version_of (state_of c.self.inside.entries.items) claim in
    let e : Entry = record { job = c.args.job; event = Wrote pod claim n } in
    let step =
    subst (λ (h : History). Step h.entries (record { job = c.args.job; event = Wrote pod claim (version_of (state_of h.entries) claim) })) (sym c.self.view_is)
    (record { allowed = c.requires.job_state; follows = c.requires.step }) in
    let seen : c.version-seen.result ≡ n = c.version-seen.ensures ∙ ap (λ (s : State). version_of s claim) kept.state_is in
    let made : c.write.new.self ≡ after (length c.self.inside.entries.items + 1) c.args.job (Wrote pod claim n) c.self.inside.state =
    c.in_ok-write.ensures.ok ∙ ap (λ (k : ℕ). with_written k pod claim c.self.inside.state) room.index in
    let holders = subst (λ (s : State). AreHeld c.self.inside.holders (held s)) (sym made) (written_held c.self.inside.state (length c.self.inside.entries.items + 1) pod claim c.self.inside.holders kept.holders_are) in
    rw (c.append.ensures.entries, room.entries, c.in_ok-kept_pod.ensures, c.in_ok-kept_claim.ensures, seen) (
      kept_more _ e _ _ _ _ _ _ _ _ _ _ kept step room.within made holders (subst (λ (s : State). AreCounted s.inventory c.self.inside.holders c.self.inside.totals) (sym made) kept.counted) room.job_states c.append.ensures.job_states,
      remembers_more c.memory_goes_on.ensures _ e _ _ _ _ _ _ _ _ kept c.self.invariant.1 step (unset _ _),
    )

pub returns-clause-legal : goal.returns-clause-legal
returns-clause-legal c = (invariant_of-self-2 c).0.legal

pub append-requires-clause-tries : goal.append-requires-clause-tries
append-requires-clause-tries c = few_tries _ _ _ _ _ _ _ c.args.job c.self.invariant.0 c.in_ok-index.ensures.job_states
