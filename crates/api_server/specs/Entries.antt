-- Which entries are made for the requests of a connection.
use Rattle.std.specs.Prelude.{ℕ, ◌≡◌, ◌+◌, ◌<◌, ◌≤◌, ◌⊎◌, List, [], ◌∷◌, ◌++◌, Option, Ok, length}
use Rattle.std.specs.Io.KnownBytes.{Consumes}
use mathlib.Core.List.{IsPrefix}
use Rattle.cluster.specs.declared.entry.Entry.{Entry}
use Rattle.commands.specs.declared.command.Command.{Command}
use Rattle.histories.specs.JobRuns.{attempts_of, command_of}
use Rattle.turn_lock.specs.Known.{Known}
use Rattle.sched_job.specs.Going.{with_added}
use Rattle.http_wire.specs.Requests.{IsRequest, Message, requests_most}
use Rattle.api_requests.specs.Tasks.{task_of}
use Rattle.api_requests.specs.declared.task.Task.TheVariants as task
use Rattle.api_server.specs.Connections.{job_of}
use Rattle.api_server.specs.declared.service.Service.{Service}

-- the entry is of the job of this request, and of its command
pub record IsOfRequest (s : Service) (index : ℕ) (m : Message) (e : Entry) : Type 0 where
  pub command : Command
  pub asks : task_of s.attempts m.method m.target m.body ≡ Ok (task.Run command)
  pub job_is : e.job ≡ job_of s.number index
  pub of_command : command_of (attempts_of command) e.event ≡ command

-- the entry is of the job of one of these requests, numbered from an index, and of its command
abbrev pub IsOfOne : Service → ℕ → List Message → Entry → Type 0
IsOfOne s index [] e = ⊥
IsOfOne s index (m ∷ ms) e = IsOfRequest s index m e ⊎ IsOfOne s (index + 1) ms e

-- the entry at an index comes after so many others, and this holds of it
pub record IsEntry (P : Entry → Type 0) (from : ℕ) (h : List Entry) (place : ℕ) : Type 0 where
  pub before : List Entry
  pub entry : Entry
  pub rest : List Entry
  pub is : h ≡ before ++ entry ∷ rest
  pub place_is : place ≡ length before + 1
  pub past : from < place
  pub fact : P entry

abbrev pub AreEntries : (Entry → Type 0) → ℕ → List Entry → List ℕ → Type 0
AreEntries P from h [] = Unit {0}
AreEntries P from h (p ∷ ps) = IsEntry P from h p × AreEntries P from h ps

-- What serving requests, numbered from an index, made of a pass: it saw more of the history, and has some indices more. They are
-- past all that it had seen before, and each is of an entry of the job of one of the requests, and of its command
pub record Grew (s : Service) (index : ℕ) (ms : List Message) (old new : Known Entry) : Type 0 where
  pub added : List ℕ
  pub is : new ≡ with_added old new.front added
  pub extends : IsPrefix old.front new.front
  pub made : AreEntries (IsOfOne s index ms) (length old.front) new.front added

-- the bytes begin with these requests, behind so many others
abbrev pub Begin : ℕ → List ℕ → List Message → Type 0
Begin before bytes [] = Unit {0}
Begin before bytes (m ∷ ms) = (text rest : List ℕ) × (bytes ≡ text ++ rest) × IsRequest before text m × Begin (before + 1) rest ms

-- what a connection made of a pass, of which this was left to read before and now
pub record HasMade (s : Service) (began now : Known Entry) (l l' : Option (List ℕ)) : Type 0 where
  pub ms : List Message
  pub bytes : List ℕ
  pub consumed : Consumes l l' bytes
  pub begin : Begin 0 bytes ms
  pub few : length ms ≤ requests_most
  pub grew : Grew s 1 ms began now
