-- What is done for a request over a lock, and how it is replied to.
use Rattle.std.specs.Prelude.{ℕ, ◌≡◌, ◌<◌, List, [], ◌∷◌, ◌++◌, Option, Some, Result, Ok, Err, length, take}
use mathlib.Core.List.{IsPrefix}
use Rattle.cluster.specs.declared.entry.Entry.{Entry}
use Rattle.cluster.specs.declared.entry.JobState.TheVariants as job_state
use Rattle.cluster.specs.History.{entry_at, job_state_of, state_of}
use Rattle.cluster.specs.declared.state.State.{State}
use Rattle.commands.specs.declared.command.Command.{Command}
use Rattle.histories.specs.JobRuns.{Run, attempts_of}
use Rattle.turn_lock.specs.Known.{Known}
use Rattle.sched_job.specs.Going.{Worked, with_added}
use Rattle.sched_job.specs.declared.run.JobEnd.{JobEnd}
use Rattle.sched_job.specs.declared.run.JobEnd.TheVariants as job_end
use Rattle.http_wire.specs.declared.reply.Reply.{Reply}
use Rattle.api_routes.specs.declared.unserved.Unserved.{Unserved}
use Rattle.api_requests.specs.declared.task.Task.{Task}
use Rattle.api_requests.specs.declared.task.Task.TheVariants.{Run as Carry, Show, List as Listing, History}
use Rattle.api_replies.specs.Answers.{Answer, answer_of, ended, journal, object_answer, refused}
use Rattle.api_replies.specs.Lists.{listed}
use Rattle.api_server.specs.declared.task.Unreplied.{Unreplied}
use Rattle.api_server.specs.declared.task.Unreplied.TheVariants as why

-- ---- replies

-- the last of these entries ends the job
pub record IsEnd (job : ℕ) (h : List Entry) (e : Entry) : Type 0 where
  pub before : List Entry
  pub is : h ≡ before ++ e ∷ []
  pub job_is : e.job ≡ job
  pub ended : job_state_of h job ≡ job_state.Ended (length h)

-- the answer to a command whose job the last of these entries ends
pub record IsEndReply (job : ℕ) (h : List Entry) (a : Answer) : Type 0 where
  pub entry : Entry
  pub end : IsEnd job h entry
  pub answer_is : a ≡ ended (state_of h) (length h) entry

-- the answer to a task after these entries, where a command is carried out as this job
abbrev pub IsTaskReply : ℕ → List Entry → Task → Answer → Type 0
IsTaskReply job h (Carry command) a = IsEndReply job h a
IsTaskReply job h (Show t) a = a ≡ object_answer 200 (state_of h) t
IsTaskReply job h (Listing kind namespace) a = a ≡ listed (state_of h) (length h) kind namespace
IsTaskReply job h History a = a ≡ journal h

-- ---- what was done with a pass

-- it saw more of the history
pub record Looked (old new : Known Entry) : Type 0 where
  pub is : new ≡ with_added old new.front []
  pub extends : IsPrefix old.front new.front

-- the command was carried out as a job, and it is replied to by the job's end
pub record IsCarried (c : Run) (old new : Known Entry) (a : Answer) : Type 0 where
  pub done : Known Entry
  pub index : ℕ
  pub worked : Worked c old done (job_end.Ended index)
  pub looked : Looked done new
  pub reply : IsEndReply c.job (take index done.front) a

-- the command isn't replied to, because memory ran out
pub record IsUncarried (c : Run) (old new : Known Entry) : Type 0 where
  pub done : Known Entry
  pub end : JobEnd
  pub worked : Worked c old done end
  pub looked : Looked done new

abbrev pub IsJob : Run → Known Entry → Known Entry → Result Reply Unreplied → Type 0
IsJob c old new (Ok r) = IsCarried c old new (answer_of r)
IsJob c old new (Err (why.Full n)) = Worked c old new (job_end.Full n)
IsJob c old new (Err why.Memory) = IsUncarried c old new

-- the reply is by the entry at an index, and doesn't depend on the state
pub record IsPlacedReply (old new : Known Entry) (place : ℕ) (a : Answer) : Type 0 where
  pub looked : Looked old new
  pub entry : Entry
  pub at : entry_at new.front place ≡ Some entry
  pub answer_is : (s : State) → a ≡ ended s place entry

abbrev pub IsPlaced : Known Entry → Known Entry → ℕ → Result Reply Unreplied → Type 0
IsPlaced old new place (Ok r) = IsPlacedReply old new place (answer_of r)
IsPlaced old new place (Err (why.Full n)) = ⊥
IsPlaced old new place (Err why.Memory) = Looked old new

-- what is shown is what the last turn found
pub record IsShown (old new : Known Entry) (task : Task) (a : Answer) : Type 0 where
  pub looked : Looked old new
  pub reply : IsTaskReply 0 new.front task a

abbrev pub IsShow : Task → Known Entry → Known Entry → Result Reply Unreplied → Type 0
IsShow task old new (Ok r) = IsShown old new task (answer_of r)
IsShow task old new (Err (why.Full n)) = ⊥
IsShow task old new (Err why.Memory) = Looked old new

-- the run of a command, as a job that begins where the pass is
abbrev pub run_for : ℕ → ℕ → Command → Known Entry → Run
run_for job budget command old = record { job = job; command = command; from = length old.front; budget = budget }

-- what was done for a task
abbrev pub Serves : ℕ → ℕ → Task → Known Entry → Known Entry → Result Reply Unreplied → Type 0
Serves job budget (Carry command) old new r = IsJob (run_for job budget command old) old new r
Serves job budget (Show t) old new r = IsShow (Show t) old new r
Serves job budget (Listing kind namespace) old new r = IsShow (Listing kind namespace) old new r
Serves job budget History old new r = IsShow History old new r

-- a command has an attempt
abbrev pub HasAttempts : Task → Type 0
HasAttempts (Carry command) = 0 < attempts_of command
HasAttempts (Show t) = Unit {0}
HasAttempts (Listing kind namespace) = Unit {0}
HasAttempts History = Unit {0}
