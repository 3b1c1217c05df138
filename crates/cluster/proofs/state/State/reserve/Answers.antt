use Rattle.std.proofs.Common.{◌≡◌, ◌∙◌, refl}
use Rattle.cluster.specs.Reserved.{with_grants, with_joins}
use Rattle.cluster.proofs.Preparing.{placed_is}
use Rattle.cluster.proofs.state.State.reserve.Goals as goal

pub returns-clause-ok : goal.returns-clause-ok
returns-clause-ok c =
    let pod = c.args.pod.now in
    let plan = c.args.plan.now in
    let claims = c.args.self.now.claims in
    let made : c.place.new.claims ≡ with_joins pod plan.joins (with_grants plan.node pod plan.grants claims) =
    c.in_ok-place.ensures ∙ rw (c.in_ok-claims.ensures, c.in_ok-uses.ensures) (placed_is pod plan claims) in
    rw (made, c.in_ok-set_phase.ensures.ok, c.in_ok-node.ensures) refl
