use Rattle.std.proofs.Common.{◌≡◌, ◌∙◌, ◌||◌, sym, ap}
use Rattle.pool_view.specs.Names.{at_key}
use Rattle.cluster.specs.Denied.{has_user, is_busy, is_user}
use Rattle.cluster.proofs.state.State.is_in_use.Goals as goal

pub returns-in-Claim : goal.returns-in-Claim
returns-in-Claim c = rw c.in-Claim.is (c.has_user.ensures ∙ ap has_user c.get.ensures)

pub returns-then-is_busy : goal.returns-then-is_busy
returns-then-is_busy c =
    let there = at_key c.args.self.now.pods c.in-Pod.key in
    let busy : c.is_busy.result ≡ is_busy there = c.is_busy.ensures ∙ ap is_busy c.get-in-Pod.ensures in
    rw c.in-Pod.is (c.if-is_busy.true ∙ sym (ap (λ b. b || is_user c.args.self.now c.in-Pod.key) (sym busy ∙ c.if-is_busy.true)))

pub returns-else-is_busy : goal.returns-else-is_busy
returns-else-is_busy c =
    let there = at_key c.args.self.now.pods c.in-Pod.key in
    let busy : c.is_busy.result ≡ is_busy there = c.is_busy.ensures ∙ ap is_busy c.get-in-Pod.ensures in
    rw c.in-Pod.is (c.is_user.ensures ∙ sym (ap (λ b. b || is_user c.args.self.now c.in-Pod.key) (sym busy ∙ c.if-is_busy.false)))
