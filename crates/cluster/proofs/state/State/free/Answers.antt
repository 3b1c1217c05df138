use Rattle.std.proofs.Common.{◌≡◌, ◌∙◌, refl}
use Rattle.pool_view.specs.Names.{at_key}
use Rattle.cluster.specs.Freed.{claims_by, with_freed}
use Rattle.cluster.proofs.Freeing.{left_is}
use Rattle.cluster.proofs.state.State.free.Goals as goal

pub returns-clause-ok : goal.returns-clause-ok
returns-clause-ok c =
    let index = c.args.index in
    let pod = c.args.pod.now in
    let claims = c.args.self.now.claims in
    let there = at_key c.args.self.now.pods pod in
    let made : c.leave.new.claims ≡ with_freed index pod (claims_by there) claims =
    c.in_ok-leave.ensures ∙ rw (c.in_ok-claims.ensures, c.in_ok-left.ensures, c.get.ensures) (left_is index pod claims there) in
    rw (made, c.in_ok-set_phase.ensures.ok) refl
