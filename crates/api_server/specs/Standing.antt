-- Where in the history the replies of a connection stand, if nobody else works on its jobs.
use Rattle.std.specs.Prelude.{ℕ, ◌≡◌, ◌+◌, ◌≤◌, List, [], ◌∷◌, ◌++◌, Result, Ok, Err, length, take}
use Rattle.cluster.specs.declared.entry.Entry.{Entry}
use Rattle.commands.specs.declared.command.Command.{Command}
use Rattle.histories.specs.JobRuns.{JobBegun, JobRun, Run}
use Rattle.turn_lock.specs.Known.{Known}
use Rattle.sched_job.specs.Owned.{AllIn}
use Rattle.http_wire.specs.Replies.{reply_bytes}
use Rattle.http_wire.specs.Requests.{Message}
use Rattle.http_wire.specs.declared.reply.Reply.{Reply}
use Rattle.api_routes.specs.declared.unserved.Unserved.{Unserved}
use Rattle.api_requests.specs.Tasks.{task_of}
use Rattle.api_requests.specs.declared.task.Task.{Task}
use Rattle.api_requests.specs.declared.task.Task.TheVariants.{Run as Carry, Show, List as Listing, History}
use Rattle.api_replies.specs.Answers.{Answer, answer_of, refused}
use Rattle.api_server.specs.Served.{IsTaskReply}
use Rattle.api_server.specs.Connections.{job_of}
use Rattle.api_server.specs.declared.service.Service.{Service}

-- each entry of the jobs of these requests, numbered from an index, is at one of these places
abbrev pub AllTheirs : Service → ℕ → List Message → List ℕ → List Entry → Type 0
AllTheirs s index [] places h = Unit {0}
AllTheirs s index (m ∷ ms) places h = AllIn (job_of s.number index) places h × AllTheirs s (index + 1) ms places h

-- the job of a request, which began at this length of the history
abbrev pub job_for : Service → ℕ → ℕ → Command → Run
job_for s from index command = record { job = job_of s.number index; command = command; from = from; budget = s.budget }

-- a command was run to its end
abbrev pub RanFor : Service → ℕ → ℕ → List Entry → Result Task Unserved → Type 0
RanFor s from index h (Ok (Carry command)) = JobRun (job_for s from index command) h
RanFor s from index h (Ok (Show t)) = Unit {0}
RanFor s from index h (Ok (Listing kind namespace)) = Unit {0}
RanFor s from index h (Ok History) = Unit {0}
RanFor s from index h (Err reason) = Unit {0}

-- the answer to what is asked for, after these entries
abbrev pub AnswersAt : ℕ → List Entry → Result Task Unserved → Answer → Type 0
AnswersAt job h (Ok task) a = IsTaskReply job h task a
AnswersAt job h (Err reason) a = a ≡ refused reason

-- the reply to a request stands at a place of the history, and a command was run to its end
pub record Stands (s : Service) (from index : ℕ) (h : List Entry) (place : ℕ) (m : Message) (r : Reply) : Type 0 where
  pub answers : AnswersAt (job_of s.number index) (take place h) (task_of s.attempts m.method m.target m.body) (answer_of r)
  pub ran : RanFor s from index h (task_of s.attempts m.method m.target m.body)

-- these bytes are the replies to the requests, numbered from an index, at places that don't decrease, from `low` up to `top`
abbrev pub AllStand : Service → ℕ → ℕ → List Entry → ℕ → ℕ → List Message → List ℕ → Type 0
AllStand s from index h low top [] out = (low ≤ top) × (out ≡ [])
AllStand s from index h low top (m ∷ ms) out =
    (place : ℕ) × (r : Reply) × (rest : List ℕ) × (low ≤ place) × (out ≡ reply_bytes r ++ rest) × Stands s from index h place m r × AllStand s from (index + 1) h place top ms rest

-- the command of a request, whose job began at some length of the history and isn't ended, met the limit
pub record IsFullFor (s : Service) (from index : ℕ) (now : Known Entry) (m : Message) (n : ℕ) : Type 0 where
  pub command : Command
  pub asks : task_of s.attempts m.method m.target m.body ≡ Ok (Carry command)
  pub count : length now.front ≡ n
  pub limit : now.number ≤ n
  pub begun : JobBegun (job_for s from index command) now.front
