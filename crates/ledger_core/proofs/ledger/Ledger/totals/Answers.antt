use Rattle.std.proofs.Common.{◌≡◌, ◌∙◌, Option, ap, is_some, subst, sym}
use Rattle.object_fields.specs.declared.key.Key.{Key}
use Rattle.counter_sets.specs.Holding.{AreHeld}
use Rattle.pool_view.specs.Pools.{id_in}
use Rattle.pool_totals.specs.Counting.{AreCounted}
use Rattle.pool_totals.proofs.Counting.{same_counted}
use Rattle.cluster.specs.declared.state.State.{State}
use Rattle.cluster.specs.Held.{held}
use Rattle.cluster.specs.History.{state_of}
use Rattle.ledger_core.specs.Ledger.{History}
use Rattle.ledger_core.proofs.ledger.Ledger.totals.Goals as goal

pub returns-clause-counted : goal.returns-clause-counted
returns-clause-counted c h are =
    let kept = c.self.invariant.0 in
    let state_is : c.self.inside.state ≡ state_of c.args.self.now.entries = kept.state_is ∙ ap (λ (h : History). state_of h.entries) c.self.view_is in
    let same = subst (λ (s : State). AreHeld h (held s)) (sym state_is) are in
    subst (λ (s : State). AreCounted s.inventory h c.self.inside.totals) state_is
    (same_counted c.self.inside.state.inventory c.self.inside.holders h c.self.inside.totals (λ o. ap (λ (k : Option Key). is_some k) (kept.holders_are.holder (id_in o) ∙ sym (same.holder (id_in o)))) kept.counted)
