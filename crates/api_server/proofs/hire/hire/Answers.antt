use Rattle.std.proofs.Common.{All, suc, [], ◌≡◌, ◌≤◌, ◌∙◌, ap, sym, refl, subst, length, map, vec_capacity, arith}
use Rattle.api_server.specs.Talks.{seen}
use Rattle.api_server.specs.Serving.{terms_of}
use Rattle.api_server.specs.Workers.{hired_as}
use Rattle.api_server.proofs.Hiring.{hire_more}
use Rattle.api_server.proofs.hire.hire.Goals as goal

pub list_of-requires : goal.list_of-requires
list_of-requires g c =
    let i = c.loop-door.invariant in
    let list = c.in-Some-next.ensures.items in (
      subst (All (λ e. e.items ≡ [])) list i.3 0 c.in-Some-next.list (omega arith),
      subst (All (λ e. 1 ≤ vec_capacity e)) list i.4 0 c.in-Some-next.list (omega arith),
    )

pub loop-door-preserved : goal.loop-door-preserved
loop-door-preserved g c =
    let i = c.loop-door.invariant in
    let door = c.in-Some.ensures.steps.0 in
    let list = c.in-Some-next.ensures.items in (
      tt,
      tt,
      hire_more (λ w. hired_as w.lock.now w.budget w.attempts w.worker w.workers w.connections (seen g.D.Door.share g.D.Door.in_service g.D.Door.served g.D.Door.ended g.D.Door.faults w.door)) (λ v. v.items) (seen g.D.Door.share g.D.Door.in_service g.D.Door.served g.D.Door.ended g.D.Door.faults) c.args.lock.now (terms_of c.args.options) c.args.options.workers c.args.options.connections c.loop-door.next _ _ _ _ _ _ _ _ c.push_reserved.ensures.items c.list_of.ensures door refl i.2,
      (let all = subst (All (λ e. e.items ≡ [])) list i.3 in λ k d lt. all (suc k) d (omega arith)),
      (let all = subst (All (λ e. 1 ≤ vec_capacity e)) list i.4 in λ k d lt. all (suc k) d (omega arith)),
      (let a = ap length list in let b = ap length door in omega (arith, a, b, i.5)),
      (let b = ap length door in let d = c.push_reserved.ensures.len in let k = c.push_reserved.ensures.capacity in omega (arith, b, d, k, i.6)),
      (let b = ap length door in omega (arith, b, i.7)),
    )
