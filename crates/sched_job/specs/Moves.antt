-- What the next turn of a job's work does, as a function of the history.
use Rattle.std.specs.Prelude.{ℕ, ◌==◌, Bool, true, false, not, Option, None, Some, List, length, find, nat_le, if◌then◌else◌}
use Rattle.object_fields.specs.declared.key.Key.{Key}
use Rattle.pool_view.specs.Names.{at_key}
use Rattle.cluster.specs.declared.entry.Command.TheVariants as asked
use Rattle.cluster.specs.declared.entry.Entry.{Entry}
use Rattle.cluster.specs.declared.entry.Event.{Event}
use Rattle.cluster.specs.declared.entry.Event.TheVariants.{Unreserved, Bound, VerdictGiven, Contended, Denied}
use Rattle.cluster.specs.declared.entry.Refusal.{Refusal}
use Rattle.cluster.specs.declared.entry.Refusal.TheVariants as refusal
use Rattle.cluster.specs.declared.entry.JobState.{JobState}
use Rattle.cluster.specs.declared.entry.JobState.TheVariants as job_state
use Rattle.cluster.specs.declared.state.Phase.{Phase}
use Rattle.cluster.specs.declared.state.Phase.TheVariants as phase
use Rattle.cluster.specs.declared.state.PodState.{PodState}
use Rattle.cluster.specs.declared.state.State.{State}
use Rattle.cluster.specs.Denied.{first_refusal}
use Rattle.cluster.specs.History.{state_of, job_state_of}
use Rattle.cluster.specs.JobState.{is_fresh}
use Rattle.cluster.specs.State.{claims_of, has_written, taken_node}
use Rattle.engine_ports.specs.declared.decision.Decision.{Decision}
use Rattle.engine_ports.specs.declared.decision.Decision.TheVariants.{Reserve, Judge}
use Rattle.histories.specs.Adopted.{adoption}
use Rattle.histories.specs.Applied.{application}
use Rattle.histories.specs.Conflict.{status_event}
use Rattle.histories.specs.Deleted.{deletion}
use Rattle.histories.specs.VerdictGiven.{MayJudge}
use Rattle.ledger_core.specs.Ledger.{History, appended}
use Rattle.histories.specs.Released.{release_of}
use Rattle.histories.specs.Reserved.{IsPlanned, reservation}
use Rattle.sched_job.specs.declared.due.Due.{Due}
use Rattle.sched_job.specs.declared.due.Due.TheVariants as due
use Rattle.commands.specs.declared.command.Command.{Command}
use Rattle.commands.specs.declared.command.Command.TheVariants as command
use Rattle.sched_job.specs.declared.work.Next.{Next}
use Rattle.sched_job.specs.declared.work.Next.TheVariants as next
use Rattle.sched_job.specs.declared.work.Stage.{Stage}
use Rattle.sched_job.specs.declared.work.Stage.TheVariants as stage
use Rattle.sched_job.specs.declared.work.Work.{Work}

-- with the event that is next, if one is
abbrev pub moved : History → ℕ → Option Event → History
moved h job None = h
moved h job (Some event) = appended h job event

-- ---- once the pod is reserved

abbrev pub is_taken_by : ℕ → Phase → Bool
is_taken_by job phase.Idle = false
is_taken_by job (phase.Taken holder node) = holder == job
is_taken_by job (phase.Bound node) = false

-- the pod's first claim whose use isn't written
abbrev pub next_claim : State → Key → PodState → Option Key
next_claim s pod p = find (λ k. not (has_written s pod k)) (claims_of p)

abbrev pub due_for : Option Key → Due
due_for None = due.Bind
due_for (Some claim) = due.Write claim

-- the pod is there, and taken by this job
abbrev pub taken_by : ℕ → Option PodState → Bool
taken_by job None = false
taken_by job (Some p) = is_taken_by job p.phase

abbrev pub due_by : State → ℕ → Key → Option PodState → Due
due_by s job pod None = due.Nothing
due_by s job pod (Some p) = if is_taken_by job p.phase then due_for (next_claim s pod p) else due.Nothing

-- what a job that has reserved the pod does next: it writes the next use, or binds the pod; nothing, if it hasn't
-- taken the pod
abbrev pub due_of : State → ℕ → Key → Due
due_of s job pod = due_by s job pod (at_key s.pods pod)

abbrev pub finish_by : State → Key → Due → Option Event
finish_by s pod due.Nothing = None
finish_by s pod due.Bind = Some (Bound pod (taken_node s pod))
finish_by s pod (due.Write claim) = Some (status_event s pod claim)

-- after the reservation: the write of the next use, or the binding
abbrev pub finish_move : State → ℕ → Key → Option Event
finish_move s job pod = finish_by s pod (due_of s job pod)

-- after a conflict: what is reserved is given up
abbrev pub give_up_move : State → ℕ → Key → Option Event
give_up_move s job pod = if taken_by job (at_key s.pods pod) then Some (Unreserved pod) else None

-- ---- an attempt

-- what a search found comes to
abbrev pub chosen_event : State → Key → Decision → Event
chosen_event s pod (Reserve plan) = reservation s pod plan
chosen_event s pod (Judge verdict) = VerdictGiven pod verdict

abbrev pub denial_by : Key → Option Refusal → Option Event
denial_by pod None = None
denial_by pod (Some refused) = Some (Denied (asked.Schedule pod) refused)

-- at the begin of an attempt: a denial, if a refusal holds; none, if a search may begin
abbrev pub begin_move : State → Key → Option Event
begin_move s pod = denial_by pod (first_refusal s (asked.Schedule pod))

-- in an attempt: what was chosen, or else its begin
abbrev pub try_move : State → Key → Stage → Option Event
try_move s pod stage.Ready = begin_move s pod
try_move s pod (stage.Seen seen) = begin_move s pod
try_move s pod (stage.Chosen choice) = Some (chosen_event s pod choice)

-- ---- a turn

abbrev pub schedule_move : State → ℕ → Key → ℕ → Stage → JobState → Option Event
schedule_move s job pod attempts stage job_state.Fresh = try_move s pod stage
schedule_move s job pod attempts stage (job_state.Reserved failed) = finish_move s job pod
schedule_move s job pod attempts stage (job_state.Conflicted failed) = give_up_move s job pod
schedule_move s job pod attempts stage (job_state.Failed failed) = if nat_le attempts failed then Some (Contended pod failed) else try_move s pod stage
schedule_move s job pod attempts stage (job_state.Ended index) = None

-- the one event of a job that isn't to schedule a pod
abbrev pub once : JobState → Event → Option Event
once st event = if is_fresh st then Some event else None

abbrev pub move_by : State → ℕ → Stage → JobState → Command → Option Event
move_by s job stage st (command.Apply object mode) = once st (application s object mode)
move_by s job stage st (command.Invalid error) = once st (Denied (asked.Invalid error) refusal.Invalid)
move_by s job stage st (command.Delete target) = once st (deletion s target)
move_by s job stage st (command.Schedule pod attempts) = schedule_move s job pod attempts stage st
move_by s job stage st (command.Release pod) = once st (release_of s pod)
move_by s job stage st (command.Adopt claim status) = once st (adoption s claim status)

-- the event that the work's next turn appends, or none
abbrev pub move_of : List Entry → Work → Option Event
move_of h w = move_by (state_of h) w.job w.stage (job_state_of h w.job) w.command

-- ---- what is kept between two turns

-- a snapshot of the state after these entries
abbrev pub looked : List Entry → Stage
looked h = stage.Seen (record { at = length h; state = state_of h })

-- what is kept of an attempt
abbrev pub tried : List Entry → Option Event → Stage
tried h None = looked h
tried h (Some event) = stage.Ready

-- the job has attempts left, and none is under way
abbrev pub tries : ℕ → JobState → Bool
tries attempts job_state.Fresh = true
tries attempts (job_state.Reserved failed) = false
tries attempts (job_state.Conflicted failed) = false
tries attempts (job_state.Failed failed) = if nat_le attempts failed then false else true
tries attempts (job_state.Ended index) = false

abbrev pub schedule_stage : List Entry → JobState → ℕ → Option Event → Stage
schedule_stage h st attempts None = if tries attempts st then looked h else stage.Ready
schedule_stage h st attempts (Some event) = stage.Ready

abbrev pub stage_by : List Entry → JobState → Command → Option Event → Stage
stage_by h st (command.Apply object mode) event = stage.Ready
stage_by h st (command.Invalid error) event = stage.Ready
stage_by h st (command.Delete target) event = stage.Ready
stage_by h st (command.Schedule pod attempts) event = schedule_stage h st attempts event
stage_by h st (command.Release pod) event = stage.Ready
stage_by h st (command.Adopt claim status) event = stage.Ready

-- what the work keeps after its next turn
abbrev pub stage_after : List Entry → Work → Stage
stage_after h w = stage_by h (job_state_of h w.job) w.command (move_of h w)

abbrev pub answer_by : Stage → Next
answer_by stage.Ready = next.Again
answer_by (stage.Seen seen) = next.Think
answer_by (stage.Chosen choice) = next.Again

-- how a job goes on that has come so far
abbrev pub answer : JobState → Stage → Next
answer job_state.Fresh stage = answer_by stage
answer (job_state.Reserved failed) stage = answer_by stage
answer (job_state.Conflicted failed) stage = answer_by stage
answer (job_state.Failed failed) stage = answer_by stage
answer (job_state.Ended index) stage = next.Ended index

-- ---- the condition of a turn

abbrev pub FitsChoice : List Entry → Key → Decision → Type 0
FitsChoice h pod (Reserve plan) = IsPlanned h pod plan
FitsChoice h pod (Judge verdict) = MayJudge h pod verdict

-- what was chosen is true at its index in this history
abbrev pub FitsStage : List Entry → Key → Stage → Type 0
FitsStage h pod stage.Ready = Unit {0}
FitsStage h pod (stage.Seen seen) = Unit {0}
FitsStage h pod (stage.Chosen choice) = FitsChoice h pod choice

abbrev pub FitsCommand : List Entry → Command → Stage → Type 0
FitsCommand h (command.Apply object mode) stage = Unit {0}
FitsCommand h (command.Invalid error) stage = Unit {0}
FitsCommand h (command.Delete target) stage = Unit {0}
FitsCommand h (command.Schedule pod attempts) stage = FitsStage h pod stage
FitsCommand h (command.Release pod) stage = Unit {0}
FitsCommand h (command.Adopt claim status) stage = Unit {0}

-- the condition of a turn
abbrev pub Fits : List Entry → Work → Type 0
Fits h w = FitsCommand h w.command w.stage
