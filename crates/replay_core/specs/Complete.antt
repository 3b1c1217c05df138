-- What a Schedule that is a single command comes to in a run of commands.
use Rattle.std.specs.Prelude.{ℕ, ◌≡◌, ◌+◌, List, ◌++◌, None, Some}
use Rattle.object_fields.specs.declared.key.Key.{Key}
use Rattle.cluster.specs.declared.entry.Entry.{Entry}
use Rattle.cluster.specs.declared.plan.Grant.{Grant}
use Rattle.cluster.specs.declared.plan.Reason.TheVariants.{Missing, Users}
use Rattle.cluster.specs.declared.state.PodState.{PodState}
use Rattle.cluster.specs.declared.state.State.{State}
use Rattle.cluster.specs.History.{state_of}
use Rattle.allocations.specs.Claims.{missing_claim, other_claim, wanted}
use Rattle.allocations.specs.Allocation.{IsAllocation}
use Rattle.plan_rules.specs.Plans.{IsFirstFull, IsIdle, MaySearch}
use Rattle.commands.specs.declared.command.Command.TheVariants.{Schedule}
use Rattle.commands.specs.declared.given.Given.{Given}
use Rattle.commands.specs.declared.given.Given.TheVariants.{One}
use Rattle.histories.specs.Alone.{NeverSetBack}
use Rattle.histories.specs.JobRuns.{Run}
use Rattle.sched_job.specs.Complete.{AllSettle, BoundTo, Decided, JudgedBy, PassedAll, first_fit}
use Rattle.replay_core.specs.Forms.{count_of}
use Rattle.replay_core.specs.Jobs.{RunOf, SegmentRun, run_after}

-- What the entries are of a job to schedule a pod that is Idle in the state s, in which the job begins; the history h
-- ends with the job.
pub record IsComplete (s : State) (c : Run) (h : List Entry) (pod : Key) (p : PodState) : Type 0 where
  -- it carries out the decision on the pod in that state
  pub decided : Decided c h pod p
  -- if each claim is there and has room, it binds the pod to the first node by name that fits
  pub bound : (node : List ℕ) → MaySearch s pod p → first_fit s p.pod.object c.budget ≡ Some node → BoundTo c h pod p node
  -- if then no node fits, its one entry is the verdict that has the cause of each node
  pub passed : MaySearch s pod p → first_fit s p.pod.object c.budget ≡ None → PassedAll c h pod p
  -- if each search ends within the budget and at no evaluation error, and some node has an allocation, it binds the pod
  pub found : (node choice : List ℕ) (grants : List Grant) → MaySearch s pod p → AllSettle s p.pod.object c.budget → other_claim s p.pod.object node ≡ None
      → IsAllocation s (wanted s p.pod.object) node choice grants → (first : List ℕ) × BoundTo c h pod p first
  -- if a claim is missing, or else has no room, its one entry is the verdict that names the first such claim
  pub missing : (claim : Key) → missing_claim s p.pod.object ≡ Some claim → JudgedBy c h pod (Missing claim)
  pub full : (claim : Key) → IsFirstFull s pod p claim → JudgedBy c h pod (Users claim)

-- After the entries of the commands before it come those of the Schedule, which are its job's run. None of them is a
-- refusal of its plan, a conflict or contended. If the pod is there and Idle when it begins, the job is complete.
pub record Scheduled (budget : ℕ) (prefix : List Given) (pod : Key) (attempts : ℕ) (h : List Entry) : Type 0 where
  pub before : List Entry
  pub segment : List Entry
  pub rest : List Entry
  pub is : h ≡ (before ++ segment) ++ rest
  pub earlier : RunOf budget prefix before
  pub run : SegmentRun (count_of prefix) (One (Schedule pod attempts)) budget before segment
  pub undisturbed : NeverSetBack (count_of prefix + 1) (before ++ segment)
  pub complete : (p : PodState) → IsIdle (state_of before) pod p → IsComplete (state_of before) (run_after (count_of prefix + 1) (Schedule pod attempts) budget before) (before ++ segment) pod p
