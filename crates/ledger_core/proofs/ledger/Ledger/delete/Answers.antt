use Rattle.std.proofs.Common.{◌∙◌, ap, sym}
use Rattle.pool_view.specs.Names.{at_key}
use Rattle.cluster.specs.declared.state.State.{State}
use Rattle.cluster.specs.Denied.{is_busy, is_user}
use Rattle.ledger_core.proofs.ledger.Ledger.delete.Goals as goal

pub delete_refusal-requires : goal.delete_refusal-requires
delete_refusal-requires c = λ pod idle.
    let kept = c.self.invariant.0 in
    ap (λ (s : State). is_user s pod) kept.state_is ∙ c.users_are_busy.ensures.idle c.self.inside.entries.items pod kept.legal (ap (λ (s : State). is_busy (at_key s.pods pod)) (sym kept.state_is) ∙ idle)
