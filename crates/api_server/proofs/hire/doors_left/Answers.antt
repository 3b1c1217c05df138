use Rattle.std.proofs.Common.{All, suc, [], ◌∷◌, ◌≡◌, ◌∙◌, ap, sym, subst, length, map, arith}
use Rattle.api_server.proofs.Hiring.{map_more, map_whole, none_left}
use Rattle.api_server.proofs.hire.doors_left.Goals as goal

pub door_of-requires : goal.door_of-requires
door_of-requires g c = subst (All (λ x. length x.items ≡ 1)) c.in-Some.ensures.steps.0 c.loop-list.invariant.3 0 c.in-Some.list (omega arith)

pub loop-list-preserved : goal.loop-list-preserved
loop-list-preserved g c =
    let i = c.loop-list.invariant in
    let list = c.in-Some.ensures.steps.0 in (
      tt,
      tt,
      map_more (λ d. d ∷ []) _ _ _ _ _ _ _ c.push_reserved.ensures.items (sym c.door_of.ensures) (ap (map (λ x. map (λ w. w.door) x.items)) list) i.2,
      (let all = subst (All (λ x. length x.items ≡ 1)) list i.3 in λ k d lt. all (suc k) d (omega arith)),
      (let b = ap length list in let d = c.push_reserved.ensures.len in let k = c.push_reserved.ensures.capacity in omega (arith, b, d, k, i.4)),
    )

pub returns : goal.returns
returns g c = map_whole (λ d. d ∷ []) (λ x. map (λ w. w.door) x.items) _ _ _ (none_left _ (sym c.loop-list.list-iterator.rest.ok.0 ∙ c.in-None.ensures.steps.0)) c.loop-list.invariant.2
