use Rattle.std.proofs.Common.{◌∙◌, ap}
use Rattle.std.specs.Prelude.{option_map}
use Rattle.cluster.proofs.state.State.version_at.Goals as goal

pub returns-in-Claim : goal.returns-in-Claim
returns-in-Claim c =
    rw c.in-Claim.is
    (c.claim_version.ensures ∙ ap (option_map (λ s. s.claim.version)) (rw (ap (λ v. v.key) (c.behind-claim.view_is ∙ c.deref-in-Claim.ensures)) at c.get-in-Claim.ensures))

pub returns-in-Pod : goal.returns-in-Pod
returns-in-Pod c =
    rw c.in-Pod.is
    (c.pod_version.ensures ∙ ap (option_map (λ s. s.pod.version)) (rw (ap (λ v. v.key) (c.behind-pod.view_is ∙ c.deref-in-Pod.ensures)) at c.get-in-Pod.ensures))
