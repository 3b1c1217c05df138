use Rattle.std.proofs.Common.{◌≡◌, ◌≤◌, All, [], sym, subst, arith, vec_capacity}
use Rattle.std.proofs.lemmas.List.Elements.{All-push}
use Rattle.api_server.proofs.hire.room_for_each.Goals as goal

pub loop-preserved : goal.loop-preserved
loop-preserved g c =
    let i = c.loop.invariant in
    let grown = c.push_reserved.ensures.items in
    let made = c.in_ok-with_capacity.ensures in (
      subst (All (λ e. e.items ≡ [])) (sym grown) (All-push (λ e. e.items ≡ []) _ _ i.0 made.items),
      subst (All (λ e. 1 ≤ vec_capacity e)) (sym grown) (All-push (λ e. 1 ≤ vec_capacity e) _ _ i.1 (let k = made.capacity in omega (arith, k))),
      (let n = c.push_reserved.ensures.len in omega (arith, n, i.2)),
      (let r = c.loop-test.true in omega (arith, r)),
      (let n = c.push_reserved.ensures.capacity in omega (arith, n, i.4)),
    )
