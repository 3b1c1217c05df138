use Rattle.std.proofs.Common.{◌∙◌, ap}
use Rattle.cluster.proofs.state.State.is_there.Goals as goal

pub returns-in-Claim : goal.returns-in-Claim
returns-in-Claim c =
    rw c.in-Claim.is (rw (ap (λ v. v.key) (c.behind-claim.view_is ∙ c.deref-in-Claim.ensures)) at c.contains_key-in-Claim.ensures)

pub returns-in-Pod : goal.returns-in-Pod
returns-in-Pod c = rw c.in-Pod.is (rw (ap (λ v. v.key) (c.behind-pod.view_is ∙ c.deref-in-Pod.ensures)) at c.contains_key-in-Pod.ensures)
