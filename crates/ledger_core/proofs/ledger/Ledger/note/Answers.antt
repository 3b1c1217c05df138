use Rattle.std.proofs.Common.{refl, subst, sym}
use Rattle.cluster.specs.declared.entry.Entry.{Entry}
use Rattle.ledger_core.specs.Ledger.{History}
use Rattle.histories.specs.Legal.{Step}
use Rattle.ledger_core.proofs.Keeping.{few_tries, kept_more}
use Rattle.ledger_core.proofs.Remembering.{note_unset, remembers_more}
use Rattle.ledger_core.proofs.ledger.Ledger.note.Goals as goal

pub invariant_of-self-2 : goal.invariant_of-self-2
invariant_of-self-2 c =
    let kept = c.self.invariant.0 in
    let e : Entry = record { job = c.args.job; event = c.args.event } in
    let step = subst (λ (h : History). Step h.entries e) (sym c.self.view_is) c.requires.step in
    rw c.in_ok-index.ensures.ok (
      kept_more _ e _ _ _ _ _ _ _ _ _ _ kept step c.in_ok-index.ensures.within (sym (c.requires.note.same _ _ c.self.inside.state)) kept.holders_are kept.counted (λ j. refl) c.in_ok-index.ensures.states,
      remembers_more c.memory_goes_on.ensures _ e _ _ _ _ _ _ _ _ kept c.self.invariant.1 step (note_unset c.args.event c.self.inside.state _ _ c.requires.note),
    )

pub returns-clause-legal : goal.returns-clause-legal
returns-clause-legal c = (invariant_of-self-2 c).0.legal

pub add-requires-clause-tries : goal.add-requires-clause-tries
add-requires-clause-tries c = few_tries _ _ _ _ _ _ _ c.args.job c.self.invariant.0 (λ j. refl)
