-- The run of one job over a history in which entries of other jobs may be between its own.
use Rattle.std.specs.Prelude.{ℕ, ◌≡◌, ◌≤◌, ◌<◌, Bool, true, false, List, [], length}
use Rattle.object_fields.specs.declared.key.Key.{Key}
use Rattle.cluster.specs.declared.entry.Command.TheVariants as asked
use Rattle.cluster.specs.declared.entry.Command.{Command as Asked}
use Rattle.cluster.specs.declared.entry.Entry.{Entry}
use Rattle.cluster.specs.declared.entry.Event.{Event}
use Rattle.cluster.specs.declared.entry.Event.TheVariants.{Applied, Deleted, Reserved, Refused, Wrote, Conflict, Unreserved, Bound, VerdictGiven, Contended, Released, Adopted, Denied}
use Rattle.cluster.specs.declared.entry.JobState.{JobState}
use Rattle.cluster.specs.declared.entry.JobState.TheVariants as job_state
use Rattle.cluster.specs.declared.plan.Plan.{Plan}
use Rattle.cluster.specs.declared.plan.Verdict.{Verdict}
use Rattle.cluster.specs.History.{state_at, job_state_of}
use Rattle.cluster.specs.JobState.{failures, may_try}
use Rattle.plan_rules.specs.Plans.{PlanBy, VerdictBy}
use Rattle.commands.specs.declared.command.Command.{Command}
use Rattle.commands.specs.declared.command.Command.TheVariants.{Apply, Invalid, Delete, Schedule, Release, Adopt}
use Rattle.histories.specs.Histories.{Each, last_place}

-- A job: its number, its command, how many entries the history had when it began, and how many items of a node's walk
-- its searches may look at.
pub record Run : Type 0 where
  pub job : ℕ
  pub command : Command
  pub from : ℕ
  pub budget : ℕ

-- how many attempts a command has
abbrev pub attempts_of : Command → ℕ
attempts_of (Apply object mode) = 1
attempts_of (Invalid error) = 1
attempts_of (Delete target) = 1
attempts_of (Schedule pod attempts) = attempts
attempts_of (Release pod) = 1
attempts_of (Adopt claim status) = 1

abbrev pub is_schedule : Command → Bool
is_schedule (Apply object mode) = false
is_schedule (Invalid error) = false
is_schedule (Delete target) = false
is_schedule (Schedule pod attempts) = true
is_schedule (Release pod) = false
is_schedule (Adopt claim status) = false

-- the command that a denial refuses
abbrev pub denied_command : ℕ → Asked → Command
denied_command attempts (asked.Invalid error) = Invalid error
denied_command attempts (asked.Apply object mode) = Apply object mode
denied_command attempts (asked.Delete target) = Delete target
denied_command attempts (asked.Schedule pod) = Schedule pod attempts
denied_command attempts (asked.Release pod) = Release pod
denied_command attempts (asked.Adopt claim status) = Adopt claim status

-- the command that an entry is of, where one that schedules a pod has so many attempts
abbrev pub command_of : ℕ → Event → Command
command_of attempts (Applied object mode) = Apply object mode
command_of attempts (Deleted target) = Delete target
command_of attempts (Reserved pod plan) = Schedule pod attempts
command_of attempts (Refused pod plan why) = Schedule pod attempts
command_of attempts (Wrote pod claim seen) = Schedule pod attempts
command_of attempts (Conflict pod claim had now) = Schedule pod attempts
command_of attempts (Unreserved pod) = Schedule pod attempts
command_of attempts (Bound pod node) = Schedule pod attempts
command_of attempts (VerdictGiven pod verdict) = Schedule pod attempts
command_of attempts (Contended pod failed) = Schedule pod attempts
command_of attempts (Released pod) = Release pod
command_of attempts (Adopted claim status) = Adopt claim status
command_of attempts (Denied command refusal) = denied_command attempts command

-- ---- when an entry of the job may come

-- The index of an attempt is neither before the job began, nor before its last entry, nor past the entries, and fewer
-- attempts than it has have failed.
pub record IsTry (c : Run) (before : List Entry) (at : ℕ) : Type 0 where
  pub from : c.from ≤ at
  pub last : last_place before c.job ≤ at
  pub within : at ≤ length before
  pub may : may_try (job_state_of before c.job) ≡ true
  pub left : failures (job_state_of before c.job) < attempts_of c.command

-- the plan is what searches within the budget find at its index
pub record TriedPlan (c : Run) (before : List Entry) (pod : Key) (plan : Plan) : Type 0 where
  pub try : IsTry c before plan.at
  pub by : PlanBy (state_at before plan.at) pod c.budget plan

-- the verdict is what searches within the budget return at its index
pub record TriedVerdict (c : Run) (before : List Entry) (pod : Key) (verdict : Verdict) : Type 0 where
  pub try : IsTry c before verdict.at
  pub by : VerdictBy (state_at before verdict.at) pod c.budget verdict

abbrev pub Timed : Run → List Entry → Event → Type 0
Timed c before (Applied object mode) = Unit {0}
Timed c before (Deleted target) = Unit {0}
Timed c before (Reserved pod plan) = TriedPlan c before pod plan
Timed c before (Refused pod plan why) = TriedPlan c before pod plan
Timed c before (Wrote pod claim seen) = Unit {0}
Timed c before (Conflict pod claim had now) = Unit {0}
Timed c before (Unreserved pod) = Unit {0}
Timed c before (Bound pod node) = Unit {0}
Timed c before (VerdictGiven pod verdict) = TriedVerdict c before pod verdict
Timed c before (Contended pod failed) = failed ≡ attempts_of c.command
Timed c before (Released pod) = Unit {0}
Timed c before (Adopted claim status) = Unit {0}
Timed c before (Denied command refusal) = failures (job_state_of before c.job) < attempts_of c.command

-- an entry of the job: it comes after the job began, is of the command, and states what searches within the budget find
pub record JobStep (c : Run) (before : List Entry) (event : Event) : Type 0 where
  pub after : c.from ≤ length before
  pub of_command : command_of (attempts_of c.command) event ≡ c.command
  pub timed : Timed c before event

-- each entry of the job is one of its run, whatever entries of other jobs are between
abbrev pub JobKept : Run → List Entry → Type 0
JobKept c h = Each (λ before e. e.job ≡ c.job → JobStep c before e.event) [] h

-- the job was run to its end
pub record JobRun (c : Run) (h : List Entry) : Type 0 where
  pub kept : JobKept c h
  pub index : ℕ
  pub ended : job_state_of h c.job ≡ job_state.Ended index

abbrev pub is_ended : JobState → Bool
is_ended job_state.Fresh = false
is_ended (job_state.Reserved failed) = false
is_ended (job_state.Conflicted failed) = false
is_ended (job_state.Failed failed) = false
is_ended (job_state.Ended index) = true

-- the job isn't ended, and its entries are a part of its run
pub record JobBegun (c : Run) (h : List Entry) : Type 0 where
  pub kept : JobKept c h
  pub open_yet : is_ended (job_state_of h c.job) ≡ false
