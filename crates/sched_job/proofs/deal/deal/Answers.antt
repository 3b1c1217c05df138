use Rattle.std.proofs.Common.{◌∙◌, ap, refl, subst, arith, length, mod-lt}
use Rattle.std.proofs.lemmas.List.{length-set}
use Rattle.sched_job.specs.Dealt.{AreReady, IsMember}
use Rattle.sched_job.proofs.Dealing.{dealt_step, members_step}
use Rattle.sched_job.proofs.deal.deal.Goals as goal

pub loop-work-preserved : goal.loop-work-preserved
loop-work-preserved g c =
    let i = c.loop-work.invariant in
    let rest = c.in-Some.ensures.steps.0 in
    let ready = subst AreReady rest i.4 in
    let there = c.index_mut.ensures.value in
    let pushed = c.in_ok-push.ensures.items in
    let member : IsMember c.args.lock.now c.args.budget (record { lock = c.args.lock; alloc = c.args.alloc; work = c.in-Some.work; budget = c.args.budget; engine = record {} }) = record { lock_is = refl; budget_is = refl; ready = ready.0; some = ready.1 } in (
      tt,
      tt,
      length-set _ _ _ ∙ i.2,
      (let n = ap length rest in omega (arith, i.3)),
      ready.2,
      dealt_step (λ x. x.items) _ _ _ _ _ _ _ _ _ rest c.requires.workers i.2 there pushed i.5,
      members_step (λ x. x.items) _ _ _ _ _ _ _ _ (mod-lt _ c.requires.workers) i.2 there pushed member i.6,
    )
