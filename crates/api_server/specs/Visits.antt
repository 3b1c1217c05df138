-- The connections of a server, and where in the history the replies to their requests stand.
use Rattle.std.specs.Prelude.{ℕ, ◌≡◌, ◌⊎◌, ◌+◌, ◌≤◌, true, List, [], ◌∷◌, ◌++◌, Ok, IfSome, length}
use Rattle.std.specs.Io.KnownBytes.{Appends, Consumes, IsAtEnd}
use Rattle.dra_ports.specs.Prefixes.{AppendsPrefix}
use Rattle.cluster.specs.declared.entry.Entry.{Entry}
use Rattle.commands.specs.declared.command.Command.{Command}
use Rattle.histories.specs.JobRuns.{JobBegun, JobRun}
use Rattle.http_wire.specs.Replies.{reply_bytes}
use Rattle.http_wire.specs.Reader.{IsUndone}
use Rattle.http_wire.specs.Requests.{AreRequests, Lie, Message}
use Rattle.http_wire.specs.Requests.{Ending, Closed, BadHead, NoLength, TooLong, EndedEarly}
use Rattle.http_wire.specs.declared.error.WireError.TheVariants as wire
use Rattle.http_wire.specs.declared.reply.Reply.{Reply}
use Rattle.api_replies.specs.Answers.{answer_of, refused}
use Rattle.api_requests.specs.Tasks.{task_of}
use Rattle.api_requests.specs.declared.task.Task.TheVariants.{Run as Carry}
use Rattle.api_routes.specs.declared.unserved.Unserved.{Unserved}
use Rattle.api_routes.specs.declared.unserved.Unserved.TheVariants as unserved
use Rattle.api_server.specs.Connections.{BeginsWith, IsUnread, has_last, job_of}
use Rattle.api_server.specs.EndCauses.{HasEndCause}
use Rattle.api_server.specs.Standing.{AllStand, job_for}
use Rattle.api_server.specs.declared.end.ConnEnd.{ConnEnd}
use Rattle.api_server.specs.declared.end.ConnEnd.TheVariants as end
use Rattle.api_server.specs.declared.service.Service.{Service}
use Rattle.api_server.specs.Talks.{Talk, Terms}

-- A connection that was served: how many entries its worker had seen before and after, the requests that have a reply, and
-- the replies.
pub record Visit : Type 0 where
  pub talk : Talk
  pub from : ℕ
  pub seen : ℕ
  pub ms : List Message
  pub out : List ℕ

abbrev pub service_of : Terms → Visit → Service
service_of t v = record { number = v.talk.number; budget = t.budget; attempts = t.attempts }

-- these bytes were read from it
abbrev pub HasRead : Visit → List ℕ → Type 0
HasRead v bytes = Consumes v.talk.left_before v.talk.left_after bytes

-- these bytes were written to it
abbrev pub HasWritten : Visit → List ℕ → Type 0
HasWritten v bytes = Appends v.talk.written_before v.talk.written_after bytes

-- a prefix of these bytes was written to it
abbrev pub HasBegun : Visit → List ℕ → Type 0
HasBegun v bytes = AppendsPrefix v.talk.written_before v.talk.written_after bytes

-- ---- how a connection ends

-- what was read is the requests, up to this ending; one of them ends the connection, or no byte is left; all replies were
-- written
pub record IsWhole (v : Visit) (ending : Ending) : Type 0 where
  pub bytes : List ℕ
  pub read : HasRead v bytes
  pub lie : Lie bytes v.ms ending
  pub over : (has_last v.ms ≡ true) ⊎ IsAtEnd v.talk.left_after
  pub wrote : HasWritten v v.out

-- what was read is the requests, and then one that can't be read; all replies were written, and then the one to that
pub record IsRefused (v : Visit) (ending : Ending) (reason : Unserved) : Type 0 where
  pub bytes : List ℕ
  pub refusal : Reply
  pub read : HasRead v bytes
  pub lie : Lie bytes v.ms ending
  pub refusal_is : answer_of refusal ≡ refused reason
  pub wrote : HasWritten v (v.out ++ reply_bytes refusal)

-- a read failed; the requests that stand whole in what was read have their replies
pub record IsHalted (v : Visit) : Type 0 where
  pub bytes : List ℕ
  pub rest : List ℕ
  pub read : HasRead v (bytes ++ rest)
  pub requests : AreRequests 0 bytes v.ms
  pub undone : IsUndone rest
  pub wrote : HasWritten v v.out

-- a write failed in the reply to the last of the requests
pub record IsCut (v : Visit) : Type 0 where
  pub before : List Message
  pub last : Message
  pub ms_is : v.ms ≡ before ++ last ∷ []
  pub bytes : List ℕ
  pub rest : List ℕ
  pub read : HasRead v (bytes ++ rest)
  pub requests : AreRequests 0 bytes before
  pub begins : BeginsWith (length before) rest last
  pub wrote : HasBegun v v.out

-- a write failed in the reply to a request that can't be read
pub record IsCutRefusal (v : Visit) : Type 0 where
  pub bytes : List ℕ
  pub rest : List ℕ
  pub read : HasRead v (bytes ++ rest)
  pub requests : AreRequests 0 bytes v.ms
  pub reason : Unserved
  pub unread : IsUnread rest reason
  pub refusal : Reply
  pub refusal_is : answer_of refusal ≡ refused reason
  pub wrote : HasBegun v (v.out ++ reply_bytes refusal)

-- the next request, which stands whole in what was read, met the limit of the history: it is a command whose job isn't ended
pub record MetLimit (t : Terms) (h : List Entry) (v : Visit) : Type 0 where
  pub bytes : List ℕ
  pub rest : List ℕ
  pub read : HasRead v (bytes ++ rest)
  pub requests : AreRequests 0 bytes v.ms
  pub request : Message
  pub begins : BeginsWith (length v.ms) rest request
  pub command : Command
  pub asks : task_of t.attempts request.method request.target request.body ≡ Ok (Carry command)
  pub begun : JobBegun (job_for (service_of t v) v.from (length v.ms + 1) command) h
  pub wrote : HasWritten v v.out

abbrev pub EndsBy : Terms → List Entry → Visit → ConnEnd → Type 0
EndsBy t h v end.Closed = IsWhole v Closed
EndsBy t h v (end.Wire wire.BadHead) = IsRefused v BadHead unserved.BadRequest
EndsBy t h v (end.Wire wire.NoLength) = IsRefused v NoLength unserved.LengthRequired
EndsBy t h v (end.Wire wire.TooLong) = IsRefused v TooLong unserved.RequestEntityTooLarge
EndsBy t h v (end.Wire wire.EndedEarly) = IsWhole v EndedEarly
EndsBy t h v (end.Wire wire.ReadFault) = IsHalted v
EndsBy t h v (end.Wire wire.WriteFault) = IsCut v ⊎ IsCutRefusal v
EndsBy t h v (end.Wire wire.Memory) = ⊥
EndsBy t h v (end.Full n) = MetLimit t h v
EndsBy t h v end.Memory = ⊥

-- The connection was served, and its replies stand in the history, at indices that don't decrease. It had nothing written
-- and no error before, and it failed only if its count of errors isn't 0 now.
pub record IsVisit (t : Terms) (h : List Entry) (v : Visit) : Type 0 where
  pub stand : AllStand (service_of t v) v.from 1 h v.from v.seen v.ms v.out
  pub within : v.seen ≤ length h
  pub ends : EndsBy t h v v.talk.end
  pub cause : HasEndCause 0 v.talk.faults v.talk.end
  pub unwritten : IfSome v.talk.written_before (λ bytes. bytes ≡ [])

abbrev pub AreVisits : Terms → List Entry → List Visit → Type 0
AreVisits t h [] = Unit {0}
AreVisits t h (v ∷ vs) = IsVisit t h v × AreVisits t h vs

abbrev pub visited : List Visit → List Talk
visited [] = []
visited (v ∷ vs) = v.talk ∷ visited vs

-- ---- whose an entry is

-- the entry is of the job of this request, numbered from 1, and of its command, which was run to its end
pub record IsOfRun (s : Service) (from index : ℕ) (m : Message) (h : List Entry) (e : Entry) : Type 0 where
  pub command : Command
  pub asks : task_of s.attempts m.method m.target m.body ≡ Ok (Carry command)
  pub job_is : e.job ≡ job_of s.number index
  pub run : JobRun (job_for s from index command) h

-- it is of the job of one of these requests
abbrev pub OfRuns : Service → ℕ → ℕ → List Message → List Entry → Entry → Type 0
OfRuns s from index [] h e = ⊥
OfRuns s from index (m ∷ ms) h e = IsOfRun s from index m h e ⊎ OfRuns s from (index + 1) ms h e

-- it is of the job of a request of the connection
abbrev pub OfVisit : Terms → List Entry → Visit → Entry → Type 0
OfVisit t h v e = OfRuns (service_of t v) v.from 1 v.ms h e

-- it is, or it is of the job of the request that met the limit
abbrev pub OfMet : Terms → List Entry → Visit → Entry → Type 0
OfMet t h v e = OfVisit t h v e ⊎ (MetLimit t h v × (e.job ≡ job_of v.talk.number (length v.ms + 1)))

-- this holds of one of the connections
abbrev pub OfSome : (Visit → Entry → Type 0) → List Visit → Entry → Type 0
OfSome P [] e = ⊥
OfSome P (v ∷ vs) e = P v e ⊎ OfSome P vs e

-- one of them met the limit
abbrev pub SomeMet : Terms → List Entry → List Visit → Type 0
SomeMet t h [] = ⊥
SomeMet t h (v ∷ vs) = MetLimit t h v ⊎ SomeMet t h vs
