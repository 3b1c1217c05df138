use Rattle.std.proofs.Common.{All, suc, [], ◌≡◌, ap, sym, ◌∙◌, subst, length, map, vec_capacity, arith}
use Rattle.crew.proofs.Laned.{map_more}
use Rattle.std.proofs.lemmas.List.Elements.{All-push}
use Rattle.crew.proofs.run.fill_lanes.Goals as goal

pub new-requires-clause-fresh : goal.new-requires-clause-fresh
new-requires-clause-fresh g c κs within = subst (All (λ e. e.items ≡ [])) c.in-Some-next-2.ensures.items c.loop-list.invariant.5 0 c.in-Some-next-2.ends (omega arith)

pub loop-list-preserved : goal.loop-list-preserved
loop-list-preserved g c =
    let i = c.loop-list.invariant in
    let grown = c.push_reserved.ensures.items in
    let list = c.in-Some.ensures.steps.0 in
    let pass = c.in-Some-next.ensures.items in
    let ends = c.in-Some-next-2.ensures.items in
    let caps = sym (ap (map (λ e. vec_capacity e)) ends) ∙ i.6 ∙ ap (map (λ v. length v.items)) list in (
      tt,
      tt,
      map_more _ _ _ _ _ _ _ _ grown c.new.ensures.pass pass i.2,
      map_more _ _ _ _ _ _ _ _ grown c.new.ensures.jobs (ap (map (λ v. v.items)) list) i.3,
      subst (All (λ x. x.ends.items ≡ [])) (sym grown) (All-push (λ x. x.ends.items ≡ []) _ _ i.4 c.new.ensures.ends),
      (let all = subst (All (λ e. e.items ≡ [])) ends i.5 in λ k d lt. all (suc k) d (omega arith)),
      cc caps,
      (let a = ap length pass in let b = ap length list in omega (arith, a, b, i.7)),
      (let b = ap length list in let d = c.push_reserved.ensures.len in let k = c.push_reserved.ensures.capacity in omega (arith, b, d, k, i.8)),
    )
