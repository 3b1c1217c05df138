use Rattle.std.proofs.Common.{◌≡◌, ◌∙◌, ◌||◌, Bool, Option, false, is_some, not, refl, true, sym, ap}
use Rattle.pool_view.specs.Names.{at_key}
use Rattle.cluster.specs.Denied.{is_busy, is_user, or_else, when}
use Rattle.cluster.specs.declared.entry.Refusal.TheVariants as refusal
use Rattle.cluster.specs.declared.state.PodState.{PodState}
use Rattle.ledger_core.proofs.deleting.delete_refusal.Goals as goal

busy_alone : (b u : Bool) → (b ≡ false → u ≡ false) → b ≡ (b || u)
busy_alone true u h = refl
busy_alone false u h = sym (h refl)

pub returns-in-Pod : goal.returns-in-Pod
returns-in-Pod c =
    let there = at_key c.args.state.now.pods c.in-Pod.pod in
    rw c.in-Pod.is (
    c.pod_refusal.ensures
    ∙ ap (λ (p : Option PodState). or_else (when (not (is_some p)) refusal.NotFound) (when (is_busy p) refusal.InUse)) c.get.ensures
    ∙ ap (λ (b : Bool). or_else (when (not (is_some there)) refusal.NotFound) (when b refusal.InUse)) (busy_alone (is_busy there) (is_user c.args.state.now c.in-Pod.pod) (c.requires c.in-Pod.pod)))
