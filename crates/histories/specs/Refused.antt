-- When a plan may be refused.
use Rattle.std.specs.Prelude.{◌≡◌, ◌≤◌, List, None, Some, length}
use Rattle.object_fields.specs.declared.key.Key.{Key}
use Rattle.cluster.specs.declared.entry.Command.TheVariants.{Schedule}
use Rattle.cluster.specs.declared.entry.Entry.{Entry}
use Rattle.cluster.specs.declared.failure.Failure.{Failure}
use Rattle.cluster.specs.declared.plan.Plan.{Plan}
use Rattle.cluster.specs.Denied.{first_refusal}
use Rattle.cluster.specs.History.{state_at, state_of}
use Rattle.plan_rules.specs.Plans.{PlanTrue}
use Rattle.plan_rules.specs.Failing.{failing}

-- the plan was true at its index, its pod can still be scheduled, and this is the plan's first failure now
pub record MayRefuse (before : List Entry) (pod : Key) (plan : Plan) (why : Failure) : Type 0 where
  pub at : plan.at ≤ length before
  pub true_then : PlanTrue (state_at before plan.at) pod plan
  pub unrefused : first_refusal (state_of before) (Schedule pod) ≡ None
  pub fails : failing (state_of before) pod plan ≡ Some why
