-- When a plan's grants may be made, and what a plan comes to at a state.
use Rattle.std.specs.Prelude.{◌≤◌, List, Option, None, Some, length}
use Rattle.object_fields.specs.declared.key.Key.{Key}
use Rattle.cluster.specs.declared.entry.Command.TheVariants.{Schedule}
use Rattle.cluster.specs.declared.entry.Entry.{Entry}
use Rattle.cluster.specs.declared.entry.Event.{Event}
use Rattle.cluster.specs.declared.entry.Event.TheVariants.{Reserved, Refused, Denied}
use Rattle.cluster.specs.declared.entry.Refusal.{Refusal}
use Rattle.cluster.specs.declared.failure.Failure.{Failure}
use Rattle.cluster.specs.declared.plan.Plan.{Plan}
use Rattle.cluster.specs.declared.state.State.{State}
use Rattle.cluster.specs.Denied.{first_refusal}
use Rattle.cluster.specs.History.{state_at, state_of}
use Rattle.plan_rules.specs.Plans.{PlanTrue, Holds}
use Rattle.plan_rules.specs.Failing.{failing}

-- the plan was true at its index
pub record IsPlanned (before : List Entry) (pod : Key) (plan : Plan) : Type 0 where
  pub at : plan.at ≤ length before
  pub true_then : PlanTrue (state_at before plan.at) pod plan

-- the plan was true at its index, and doesn't fail now
pub record MayReserve (before : List Entry) (pod : Key) (plan : Plan) : Type 0 where
  pub at : plan.at ≤ length before
  pub true_then : PlanTrue (state_at before plan.at) pod plan
  pub holds_now : Holds (state_of before) pod plan

abbrev pub reservation_by : Key → Plan → Option Refusal → Option Failure → Event
reservation_by pod plan (Some refusal) failure = Denied (Schedule pod) refusal
reservation_by pod plan None (Some why) = Refused pod plan why
reservation_by pod plan None None = Reserved pod plan

-- what a plan for a pod comes to: its grants, or its first failure, or a denial, where the pod can't be scheduled any more
abbrev pub reservation : State → Key → Plan → Event
reservation s pod plan = reservation_by pod plan (first_refusal s (Schedule pod)) (failing s pod plan)
