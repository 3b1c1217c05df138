-- The one entry of a job whose command isn't to schedule a pod.
use Rattle.std.proofs.Common.{ℕ, ◌≡◌, ◌∙◌, ◌<◌, List, Bool, true, false, Option, None, Some, refl, sym, ap, subst, arith}
use Rattle.cluster.specs.declared.entry.Entry.{Entry}
use Rattle.cluster.specs.declared.entry.Event.{Event}
use Rattle.cluster.specs.declared.entry.JobState.{JobState}
use Rattle.cluster.specs.declared.entry.JobState.TheVariants as job_state
use Rattle.cluster.specs.declared.entry.Mode.{Mode}
use Rattle.cluster.specs.declared.entry.Refusal.{Refusal}
use Rattle.cluster.specs.declared.object.Object.{Object}
use Rattle.cluster.specs.declared.object.Target.{Target}
use Rattle.cluster.specs.declared.state.State.{State}
use Rattle.cluster.specs.Events.{job_state_after}
use Rattle.cluster.specs.History.{job_state_of}
use Rattle.object_fields.specs.declared.key.Key.{Key}
use Rattle.api_claim.specs.declared.types.ClaimStatus.{ClaimStatus}
use Rattle.commands.specs.declared.command.Command.{Command}
use Rattle.commands.specs.declared.command.Command.TheVariants.{Apply, Invalid, Delete, Schedule, Release, Adopt}
use Rattle.histories.specs.Adopted.{adoption_by}
use Rattle.histories.specs.Applied.{application_by}
use Rattle.histories.specs.Deleted.{deletion_by}
use Rattle.histories.specs.Released.{release_by}
use Rattle.histories.specs.JobRuns.{Run, Timed, attempts_of, command_of, is_schedule}
use Rattle.sched_job.specs.Owned.{OwnTimed}
use Rattle.api_server.specs.Once.{event_of}

-- the entry ends a job of the command that had no entry
pub record EndsOnce (c : Run) (before : List Entry) (command : Command) (event : Event) : Type 0 where
  pub of_command : command_of (attempts_of command) event ≡ command
  pub timed : job_state_of before c.job ≡ job_state.Fresh → 0 < attempts_of c.command → Timed c before event
  pub own : OwnTimed c 0 before event
  pub ends : (st : JobState) (index : ℕ) → job_state_after st index event ≡ job_state.Ended index

in_time : (c : Run) (before : List Entry) → job_state_of before c.job ≡ job_state.Fresh → 0 < attempts_of c.command → Rattle.cluster.specs.JobState.failures (job_state_of before c.job) < attempts_of c.command
in_time c before fresh some = subst (λ (n : ℕ). n < attempts_of c.command) (sym (ap Rattle.cluster.specs.JobState.failures fresh)) some

applies : (c : Run) (before : List Entry) (x : Object) (m : Mode) (r : Option Refusal) → EndsOnce c before (Apply x m) (application_by x m r)
applies c before x m None = record { of_command = refl; timed = λ fresh some. tt; own = tt; ends = λ st index. refl }
applies c before x m (Some refused) = record { of_command = refl; timed = in_time c before; own = tt; ends = λ st index. refl }

deletes : (c : Run) (before : List Entry) (t : Target) (r : Option Refusal) → EndsOnce c before (Delete t) (deletion_by t r)
deletes c before t None = record { of_command = refl; timed = λ fresh some. tt; own = tt; ends = λ st index. refl }
deletes c before t (Some refused) = record { of_command = refl; timed = in_time c before; own = tt; ends = λ st index. refl }

releases : (c : Run) (before : List Entry) (pod : Key) (r : Option Refusal) → EndsOnce c before (Release pod) (release_by pod r)
releases c before pod None = record { of_command = refl; timed = λ fresh some. tt; own = tt; ends = λ st index. refl }
releases c before pod (Some refused) = record { of_command = refl; timed = in_time c before; own = tt; ends = λ st index. refl }

adopts : (c : Run) (before : List Entry) (claim : Key) (status : ClaimStatus) (r : Option Refusal) → EndsOnce c before (Adopt claim status) (adoption_by claim status r)
adopts c before claim status None = record { of_command = refl; timed = λ fresh some. tt; own = tt; ends = λ st index. refl }
adopts c before claim status (Some refused) = record { of_command = refl; timed = in_time c before; own = tt; ends = λ st index. refl }

pub ends_once : (c : Run) (before : List Entry) (s : State) (command : Command) → is_schedule command ≡ false → EndsOnce c before command (event_of s command)
ends_once c before s (Apply x m) once = applies c before x m _
ends_once c before s (Invalid error) once = record { of_command = refl; timed = in_time c before; own = tt; ends = λ st index. refl }
ends_once c before s (Delete t) once = deletes c before t _
ends_once c before s (Schedule pod attempts) once = absurd (cc)
ends_once c before s (Release pod) once = releases c before pod _
ends_once c before s (Adopt claim status) once = adopts c before claim status _
