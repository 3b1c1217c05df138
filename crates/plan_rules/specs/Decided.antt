-- What is decided on a pod, within a budget.
use Rattle.std.specs.Prelude.{ℕ}
use Rattle.object_fields.specs.declared.key.Key.{Key}
use Rattle.cluster.specs.declared.plan.Plan.{Plan}
use Rattle.cluster.specs.declared.plan.Verdict.{Verdict}
use Rattle.cluster.specs.declared.state.State.{State}
use Rattle.plan_rules.specs.Plans.{PlanBy, PlanTrue, VerdictBy, VerdictTrue}

-- the plan is true, and is what searches within the budget find
pub record IsPlanWithin (s : State) (pod : Key) (budget : ℕ) (plan : Plan) : Type 0 where
  pub holds : PlanTrue s pod plan
  pub found : PlanBy s pod budget plan

-- the verdict is true, and is what searches within the budget show
pub record IsVerdictWithin (s : State) (pod : Key) (budget : ℕ) (verdict : Verdict) : Type 0 where
  pub holds : VerdictTrue s pod verdict
  pub found : VerdictBy s pod budget verdict
