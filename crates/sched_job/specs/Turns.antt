-- How many turns a work has left.
use Rattle.std.specs.Prelude.{ℕ, ◌+◌, ◌-◌, ◌*◌, List, [], ◌∷◌, Option, None, Some, if◌then◌else◌}
use Rattle.object_fields.specs.declared.key.Key.{Key}
use Rattle.pool_view.specs.Names.{at_key}
use Rattle.cluster.specs.declared.entry.Entry.{Entry}
use Rattle.cluster.specs.declared.entry.JobState.{JobState}
use Rattle.cluster.specs.declared.entry.JobState.TheVariants as job_state
use Rattle.cluster.specs.declared.state.PodState.{PodState}
use Rattle.cluster.specs.declared.state.State.{State}
use Rattle.cluster.specs.History.{state_of, job_state_of}
use Rattle.cluster.specs.State.{claims_of, has_written}
use Rattle.commands.specs.declared.command.Command.{Command}
use Rattle.commands.specs.declared.command.Command.TheVariants.{Apply, Invalid, Delete, Schedule, Release, Adopt}
use Rattle.sched_job.specs.declared.work.Stage.{Stage}
use Rattle.sched_job.specs.declared.work.Stage.TheVariants.{Ready, Seen, Chosen}
use Rattle.sched_job.specs.declared.work.Work.{Work}

-- how many of the claims the pod's use of isn't written
abbrev pub unwritten_among : State → Key → List Key → ℕ
unwritten_among s pod [] = 0
unwritten_among s pod (k ∷ ks) = if has_written s pod k then unwritten_among s pod ks else unwritten_among s pod ks + 1

abbrev pub unwritten_by : State → Key → Option PodState → ℕ
unwritten_by s pod None = 0
unwritten_by s pod (Some p) = unwritten_among s pod (claims_of p)

-- how many uses of the pod are still to be written
abbrev pub unwritten : State → Key → ℕ
unwritten s pod = unwritten_by s pod (at_key s.pods pod)

-- the most turns that an attempt takes: the snapshot, the reservation, a write of each of 32 claims or a conflict in
-- the stead of the last, and the binding or the giving up
abbrev pub attempt_turns : ℕ
attempt_turns = 35

-- one more turn before an attempt's entry, if nothing is chosen yet
abbrev pub waits : Stage → ℕ
waits Ready = 1
waits (Seen seen) = 1
waits (Chosen choice) = 0

abbrev pub attempts_left : State → Key → ℕ → Stage → JobState → ℕ
attempts_left s pod attempts kept job_state.Fresh = attempt_turns * attempts + waits kept
attempts_left s pod attempts kept (job_state.Reserved failed) = attempt_turns * (attempts - failed - 1) + 2 + unwritten s pod
attempts_left s pod attempts kept (job_state.Conflicted failed) = attempt_turns * (attempts - failed - 1) + 2
attempts_left s pod attempts kept (job_state.Failed failed) = attempt_turns * (attempts - failed) + waits kept
attempts_left s pod attempts kept (job_state.Ended index) = 0

-- a job that isn't to schedule a pod makes one entry
abbrev pub once_left : JobState → ℕ
once_left job_state.Fresh = 1
once_left (job_state.Reserved failed) = 1
once_left (job_state.Conflicted failed) = 1
once_left (job_state.Failed failed) = 1
once_left (job_state.Ended index) = 0

abbrev pub left_by : State → Stage → JobState → Command → ℕ
left_by s kept st (Apply object mode) = once_left st
left_by s kept st (Invalid error) = once_left st
left_by s kept st (Delete target) = once_left st
left_by s kept st (Schedule pod attempts) = attempts_left s pod attempts kept st
left_by s kept st (Release pod) = once_left st
left_by s kept st (Adopt claim status) = once_left st

-- the most turns that the work has left
abbrev pub most_turns : List Entry → Work → ℕ
most_turns h w = left_by (state_of h) w.stage (job_state_of h w.job) w.command
