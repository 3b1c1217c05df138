use Rattle.std.proofs.Common.{◌∙◌, ap}
use Rattle.cluster.specs.Denied.{is_claim_changed, is_pod_changed}
use Rattle.cluster.proofs.state.State.is_changed.Goals as goal

pub returns-in-Claim : goal.returns-in-Claim
returns-in-Claim c =
    rw c.in-Claim.is
    (rw c.deref-in-Claim.ensures at c.is_claim_changed.ensures
    ∙ ap (is_claim_changed c.in-Claim.claim) (rw (ap (λ v. v.key) (c.behind-claim.view_is ∙ c.deref.ensures)) at c.get.ensures))

pub returns-in-Pod : goal.returns-in-Pod
returns-in-Pod c =
    rw c.in-Pod.is
    (rw c.deref-in-Pod-2.ensures at c.is_pod_changed.ensures
    ∙ ap (is_pod_changed c.in-Pod.pod) (rw (ap (λ v. v.key) (c.behind-pod.view_is ∙ c.deref-in-Pod.ensures)) at c.get-in-Pod.ensures))
