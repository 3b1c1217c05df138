use Rattle.std.proofs.Common.{◌∙◌, ◌≤◌, ◌<◌, length, arith, refl}
use Rattle.sched_job.proofs.Stepping.{ran_new, all_fit, all_ends, walk_start, walk_step, walk_end}
use Rattle.sched_job.proofs.steps.run_steps.Goals as goal

pub loop-step-init : goal.loop-step-init
loop-step-init g c =
    (ran_new c.args.budget c.args.ledger.now.entries c.args.works.now c.requires.fresh, c.len-len.ensures.legal, omega arith, λ H' ws' n walk. walk_start c.args.budget c.args.steps.now c.args.ledger.now H' c.args.works.now ws' n walk, refl)

pub go_at-requires-clause-fit : goal.go_at-requires-clause-fit
go_at-requires-clause-fit g c = all_fit _ _ _ _ c.loop-step.invariant.0.running

pub returns-in_err-turns-clause-ran : goal.returns-in_err-turns-clause-ran
returns-in_err-turns-clause-ran g c = c.go_at.ensures.ran _ _ _ c.requires.differ c.loop-step.invariant.0

pub returns-in_err-turns-clause-ends : goal.returns-in_err-turns-clause-ends
returns-in_err-turns-clause-ends g c = all_ends _ _ _ _ (c.go_at.ensures.ran _ _ _ c.requires.differ c.loop-step.invariant.0).running

pub loop-step-preserved : goal.loop-step-preserved
loop-step-preserved g c =
    let lt : c.loop-step.step-index < length c.args.steps.now = omega arith in
    let few = c.in_ok-turns.ensures.few in (
      c.go_at.ensures.ran _ _ _ c.requires.differ c.loop-step.invariant.0,
      c.go_at.ensures.legal,
      omega arith,
      walk_step c.args.budget c.args.steps.now c.loop-step.step-index c.loop-step.turns c.in_ok-turns.field-0 c.args.ledger.now c.loop-step.ledger c.go_at.new.ledger c.args.works.now c.loop-step.works c.go_at.new.works lt c.in_ok-turns.ensures.went c.loop-step.invariant.3,
      c.go_at.ensures.limit ∙ c.loop-step.invariant.4,
    )

pub returns-clause-ends : goal.returns-clause-ends
returns-clause-ends g c = all_ends _ _ _ _ c.loop-step.invariant.0.running

pub returns-clause-walk : goal.returns-clause-walk
returns-clause-walk g c =
    let over : length c.args.steps.now ≤ c.loop-step.step-index = omega arith in
    walk_end c.args.budget c.args.steps.now c.loop-step.step-index c.loop-step.turns c.args.ledger.now c.loop-step.ledger c.args.works.now c.loop-step.works over c.loop-step.invariant.3

pub returns-in_err-turns-clause-limit : goal.returns-in_err-turns-clause-limit
returns-in_err-turns-clause-limit g c = c.go_at.ensures.limit ∙ c.loop-step.invariant.4

pub returns-clause-limit : goal.returns-clause-limit
returns-clause-limit g c = c.loop-step.invariant.4
