-- What a decision is.
use Rattle.std.specs.Prelude.{ℕ, ◌≡◌}
use Rattle.object_fields.specs.declared.key.Key.{Key}
use Rattle.cluster.specs.declared.plan.Plan.{Plan}
use Rattle.cluster.specs.declared.plan.Verdict.{Verdict}
use Rattle.cluster.specs.declared.state.State.{State}
use Rattle.engine_ports.specs.declared.decision.Decision.{Decision}
use Rattle.engine_ports.specs.declared.decision.Decision.TheVariants.{Reserve, Judge}
use Rattle.plan_rules.specs.Plans.{PlanBy, PlanTrue, VerdictBy, VerdictTrue}

-- the plan is made at the index, is true there, and is what searches within the budget find
pub record IsReserve (s : State) (pod : Key) (budget at : ℕ) (plan : Plan) : Type 0 where
  pub index : plan.at ≡ at
  pub holds : PlanTrue s pod plan
  pub found : PlanBy s pod budget plan

-- the verdict, likewise
pub record IsJudge (s : State) (pod : Key) (budget at : ℕ) (verdict : Verdict) : Type 0 where
  pub index : verdict.at ≡ at
  pub holds : VerdictTrue s pod verdict
  pub found : VerdictBy s pod budget verdict

abbrev pub IsDecision : State → Key → ℕ → ℕ → Decision → Type 0
IsDecision s pod budget at (Reserve plan) = IsReserve s pod budget at plan
IsDecision s pod budget at (Judge verdict) = IsJudge s pod budget at verdict
