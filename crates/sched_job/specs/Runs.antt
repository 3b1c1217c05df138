-- A work of a job, between its turns.
use Rattle.std.specs.Prelude.{ℕ, ◌≡◌, ◌≤◌, ◌<◌, true, List, length}
use Rattle.object_fields.specs.declared.key.Key.{Key}
use Rattle.cluster.specs.declared.entry.Entry.{Entry}
use Rattle.cluster.specs.declared.entry.JobState.{JobState}
use Rattle.cluster.specs.declared.entry.JobState.TheVariants as job_state
use Rattle.cluster.specs.declared.plan.Plan.{Plan}
use Rattle.cluster.specs.declared.plan.Verdict.{Verdict}
use Rattle.cluster.specs.History.{state_at, job_state_of}
use Rattle.engine_ports.specs.declared.decision.Decision.{Decision}
use Rattle.engine_ports.specs.declared.decision.Decision.TheVariants.{Reserve, Judge}
use Rattle.plan_rules.specs.Plans.{PlanTrue, VerdictTrue}
use Rattle.ledger_core.specs.Snapshot.{Seen as Snapshot}
use Rattle.commands.specs.declared.command.Command.{Command}
use Rattle.commands.specs.declared.command.Command.TheVariants.{Apply, Invalid, Delete, Schedule, Release, Adopt}
use Rattle.sched_job.specs.declared.work.Stage.{Stage}
use Rattle.sched_job.specs.declared.work.Stage.TheVariants.{Ready, Seen, Chosen}
use Rattle.sched_job.specs.declared.work.Work.{Work}
use Rattle.histories.specs.JobRuns.{Run, attempts_of, is_schedule, IsTry, TriedPlan, TriedVerdict, JobKept}

-- so many attempts to schedule have failed, and there is one more
pub record IsUnderWay (c : Command) (failed : ℕ) : Type 0 where
  pub schedules : is_schedule c ≡ true
  pub left : failed < attempts_of c

-- so many attempts to schedule have failed, which are at most those that there are
pub record HasFailed (c : Command) (failed : ℕ) : Type 0 where
  pub schedules : is_schedule c ≡ true
  pub within : failed ≤ attempts_of c

-- how far a job may have come
abbrev pub Counted : Command → JobState → Type 0
Counted c job_state.Fresh = Unit {0}
Counted c (job_state.Reserved failed) = IsUnderWay c failed
Counted c (job_state.Conflicted failed) = IsUnderWay c failed
Counted c (job_state.Failed failed) = HasFailed c failed
Counted c (job_state.Ended index) = Unit {0}

-- the snapshot is of the state at its index, at which an attempt may be made
pub record IsSeen (c : Run) (h : List Entry) (seen : Snapshot) : Type 0 where
  pub try : IsTry c h seen.at
  pub state : seen.state ≡ state_at h seen.at

-- the plan is true at its index, and what searches within the budget find there
pub record ChosenPlan (c : Run) (h : List Entry) (pod : Key) (plan : Plan) : Type 0 where
  pub tried : TriedPlan c h pod plan
  pub holds : PlanTrue (state_at h plan.at) pod plan

-- the verdict, likewise
pub record ChosenVerdict (c : Run) (h : List Entry) (pod : Key) (verdict : Verdict) : Type 0 where
  pub tried : TriedVerdict c h pod verdict
  pub holds : VerdictTrue (state_at h verdict.at) pod verdict

abbrev pub IsChosen : Run → List Entry → Key → Decision → Type 0
IsChosen c h pod (Reserve plan) = ChosenPlan c h pod plan
IsChosen c h pod (Judge verdict) = ChosenVerdict c h pod verdict

abbrev pub IsTrying : Run → List Entry → Key → Stage → Type 0
IsTrying c h pod Ready = Unit {0}
IsTrying c h pod (Seen seen) = IsSeen c h seen
IsTrying c h pod (Chosen choice) = IsChosen c h pod choice

-- what is kept between two turns of the command is right
abbrev pub IsStaged : Run → List Entry → Command → Stage → Type 0
IsStaged c h (Apply object mode) stage = Unit {0}
IsStaged c h (Invalid error) stage = Unit {0}
IsStaged c h (Delete target) stage = Unit {0}
IsStaged c h (Schedule pod attempts) stage = IsTrying c h pod stage
IsStaged c h (Release pod) stage = Unit {0}
IsStaged c h (Adopt claim status) stage = Unit {0}

-- the work has made each entry of its job, and can go on
pub record Running (c : Run) (h : List Entry) (w : Work) : Type 0 where
  pub job : w.job ≡ c.job
  pub command : w.command ≡ c.command
  pub some : 0 < attempts_of c.command
  pub began : c.from ≤ length h
  pub kept : JobKept c h
  pub count : Counted c.command (job_state_of h c.job)
  pub staged : IsStaged c h c.command w.stage
