-- How the requests of a connection are served.
use Rattle.std.specs.Prelude.{ℕ, ◌≡◌, ◌⊎◌, ◌+◌, ◌*◌, ◌||◌, Err, Bool, true, false, List, [], ◌∷◌, ◌++◌, Option, None, Some, Ok, length, take}
use Rattle.std.specs.Io.KnownBytes.{Appends, Consumes, IsAtEnd}
use Rattle.dra_ports.specs.Prefixes.{AppendsPrefix}
use Rattle.cluster.specs.declared.entry.Entry.{Entry}
use Rattle.turn_lock.specs.Known.{Known}
use Rattle.http_wire.specs.Replies.{reply_bytes}
use Rattle.http_wire.specs.Requests.{AreRequests, IsRequest, Lie, Message, Stops}
use Rattle.http_wire.specs.Requests.{Ending, Closed, BadHead, NoLength, TooLong, EndedEarly}
use Rattle.http_wire.specs.Reader.{IsUndone}
use Rattle.http_wire.specs.declared.error.WireError.{WireError}
use Rattle.http_wire.specs.declared.error.WireError.TheVariants as wire
use Rattle.http_wire.specs.declared.reply.Reply.{Reply}
use Rattle.api_requests.specs.Tasks.{task_of}
use Rattle.api_replies.specs.Answers.{answer_of, refused}
use Rattle.api_routes.specs.declared.unserved.Unserved.{Unserved}
use Rattle.api_routes.specs.declared.unserved.Unserved.TheVariants as unserved
use Rattle.api_server.specs.Requests.{ServesRequest}
use Rattle.api_server.specs.declared.task.Unreplied.{Unreplied}
use Rattle.api_server.specs.declared.task.Unreplied.TheVariants as why
use Rattle.api_server.specs.declared.end.ConnEnd.{ConnEnd}
use Rattle.api_server.specs.declared.end.ConnEnd.TheVariants as end
use Rattle.api_server.specs.declared.service.Service.{Service}

-- the number of the job of a request, both numbered from 1
abbrev pub job_of : ℕ → ℕ → ℕ
job_of number index = number * 65536 + index

-- ---- one reply

abbrev pub closed_if : Bool → Option ConnEnd
closed_if false = None
closed_if true = Some end.Closed

-- how a connection ends that failed
abbrev pub broken : WireError → ConnEnd
broken wire.BadHead = end.Wire wire.BadHead
broken wire.NoLength = end.Wire wire.NoLength
broken wire.TooLong = end.Wire wire.TooLong
broken wire.EndedEarly = end.Wire wire.EndedEarly
broken wire.ReadFault = end.Wire wire.ReadFault
broken wire.WriteFault = end.Wire wire.WriteFault
broken wire.Memory = end.Memory

-- how a reply was written, and how the connection goes on
abbrev pub Sends : Option (List ℕ) → Option (List ℕ) → List ℕ → Bool → Option ConnEnd → Type 0
Sends old new bytes last None = Appends old new bytes × (last ≡ false)
Sends old new bytes last (Some end.Closed) = Appends old new bytes × (last ≡ true)
Sends old new bytes last (Some (end.Wire error)) = AppendsPrefix old new bytes × (error ≡ wire.WriteFault)
Sends old new bytes last (Some (end.Full n)) = ⊥
Sends old new bytes last (Some end.Memory) = AppendsPrefix old new bytes

-- how a connection ends after the reply to a request that couldn't be read, by how that was written
abbrev pub refused_end : WireError → Option ConnEnd → ConnEnd
refused_end error None = end.Closed
refused_end error (Some end.Closed) = end.Wire error
refused_end error (Some (end.Wire e)) = end.Wire e
refused_end error (Some (end.Full n)) = end.Full n
refused_end error (Some end.Memory) = end.Memory

-- the request was served, and this is the reply
abbrev pub IsReplied : Service → ℕ → Message → Known Entry → Known Entry → Reply → Type 0
IsReplied s index m old new r = ServesRequest (job_of s.number index) s.budget (task_of s.attempts m.method m.target m.body) old new (Ok r)

-- ---- many replies

-- the requests were served one after another, each from where the pass was, and these are the replies
abbrev pub Replies : Service → ℕ → Known Entry → List Message → Known Entry → List ℕ → Type 0
Replies s index old [] new out = (new ≡ old) × (out ≡ [])
Replies s index old (m ∷ ms) new out =
    (mid : Known Entry) × (r : Reply) × (rest : List ℕ) × (out ≡ reply_bytes r ++ rest) × IsReplied s index m old mid r × Replies s (index + 1) mid ms new rest

-- ---- one request

-- the request isn't replied to, for this reason
abbrev pub IsUnreplied : Service → ℕ → Message → Known Entry → Known Entry → Unreplied → Type 0
IsUnreplied s index m old new reason = ServesRequest (job_of s.number index) s.budget (task_of s.attempts m.method m.target m.body) old new (Err reason)

-- the request is served, and its reply is written, as far as writing doesn't fail
abbrev pub Serving : Service → ℕ → Message → Known Entry → Known Entry → Option (List ℕ) → Option (List ℕ) → Option ConnEnd → Type 0
Serving s index m old new w w' None = (r : Reply) × IsReplied s index m old new r × Appends w w' (reply_bytes r) × (m.last ≡ false)
Serving s index m old new w w' (Some end.Closed) = (r : Reply) × IsReplied s index m old new r × Appends w w' (reply_bytes r) × (m.last ≡ true)
Serving s index m old new w w' (Some (end.Wire error)) = (r : Reply) × IsReplied s index m old new r × AppendsPrefix w w' (reply_bytes r) × (error ≡ wire.WriteFault)
Serving s index m old new w w' (Some (end.Full n)) = IsUnreplied s index m old new (why.Full n) × (w' ≡ w)
Serving s index m old new w w' (Some end.Memory) =
    ((r : Reply) × IsReplied s index m old new r × AppendsPrefix w w' (reply_bytes r)) ⊎ (IsUnreplied s index m old new why.Memory × (w' ≡ w))

-- a request that can't be read is replied to, as far as writing doesn't fail
abbrev pub Refusing : Unserved → WireError → Option (List ℕ) → Option (List ℕ) → ConnEnd → Type 0
Refusing reason error w w' end.Closed = ⊥
Refusing reason error w w' (end.Wire e) =
    (r : Reply) × (answer_of r ≡ refused reason) × ((Appends w w' (reply_bytes r) × (e ≡ error)) ⊎ (AppendsPrefix w w' (reply_bytes r) × (e ≡ wire.WriteFault)))
Refusing reason error w w' (end.Full n) = ⊥
Refusing reason error w w' end.Memory = ((r : Reply) × (answer_of r ≡ refused reason) × AppendsPrefix w w' (reply_bytes r)) ⊎ (w' ≡ w)

-- a request that can't be read ends the connection
abbrev pub Stopping : WireError → Option (List ℕ) → Option (List ℕ) → ConnEnd → Type 0
Stopping wire.BadHead w w' e = Refusing unserved.BadRequest wire.BadHead w w' e
Stopping wire.NoLength w w' e = Refusing unserved.LengthRequired wire.NoLength w w' e
Stopping wire.TooLong w w' e = Refusing unserved.RequestEntityTooLarge wire.TooLong w w' e
Stopping wire.EndedEarly w w' e = (w' ≡ w) × (e ≡ end.Wire wire.EndedEarly)
Stopping wire.ReadFault w w' e = (w' ≡ w) × (e ≡ end.Wire wire.ReadFault)
Stopping wire.WriteFault w w' e = (w' ≡ w) × (e ≡ end.Wire wire.WriteFault)
Stopping wire.Memory w w' e = (w' ≡ w) × (e ≡ end.Memory)

-- ---- what was read and replied to

-- what was read begins with these requests, none of which ends the connection, and these bytes follow them; the requests were
-- served one after another, and these are the replies
pub record HasServed (s : Service) (began now : Known Entry) (l l' : Option (List ℕ)) (ms : List Message) (rest out : List ℕ) : Type 0 where
  pub bytes : List ℕ
  pub consumed : Consumes l l' (bytes ++ rest)
  pub requests : AreRequests 0 bytes ms
  pub replies : Replies s 1 began ms now out

-- the bytes begin with this request, behind so many others
abbrev pub BeginsWith : ℕ → List ℕ → Message → Type 0
BeginsWith before bytes m = (text rest : List ℕ) × (bytes ≡ text ++ rest) × IsRequest before text m

-- the bytes begin with a request that can't be read, and is refused for this reason
abbrev pub IsUnread : List ℕ → Unserved → Type 0
IsUnread bytes unserved.BadRequest = Stops bytes BadHead
IsUnread bytes unserved.NotFound = ⊥
IsUnread bytes unserved.MethodNotAllowed = ⊥
IsUnread bytes unserved.LengthRequired = Stops bytes NoLength
IsUnread bytes unserved.RequestEntityTooLarge = Stops bytes TooLong

-- a request behind so many others, with which the bytes begin, was served, and this is its reply
pub record NextServed (s : Service) (before : ℕ) (mid now : Known Entry) (rest : List ℕ) (r : Reply) : Type 0 where
  pub request : Message
  pub begins : BeginsWith before rest request
  pub replied : IsReplied s (before + 1) request mid now r

-- the bytes begin with a request that can't be read, and this is its reply
pub record NextRefused (mid now : Known Entry) (rest : List ℕ) (r : Reply) : Type 0 where
  pub reason : Unserved
  pub unread : IsUnread rest reason
  pub answer_is : answer_of r ≡ refused reason
  pub same : now ≡ mid

abbrev pub IsNext : Service → ℕ → Known Entry → Known Entry → List ℕ → Reply → Type 0
IsNext s before mid now rest r = NextServed s before mid now rest r ⊎ NextRefused mid now rest r

-- a request behind so many others, with which the bytes begin, was not replied to, for this reason
pub record NextUnreplied (s : Service) (before : ℕ) (mid now : Known Entry) (rest : List ℕ) (reason : Unreplied) : Type 0 where
  pub request : Message
  pub begins : BeginsWith before rest request
  pub unreplied : IsUnreplied s (before + 1) request mid now reason

-- ---- how a connection ends

-- whether one of the requests ends the connection
abbrev pub has_last : List Message → Bool
has_last [] = false
has_last (m ∷ ms) = m.last || has_last ms

-- the requests of what was read, up to this ending, were all replied to, and one of them ends the connection, or no byte is
-- left
pub record IsDone (s : Service) (began now : Known Entry) (l l' w w' : Option (List ℕ)) (ending : Ending) : Type 0 where
  pub ms : List Message
  pub bytes : List ℕ
  pub out : List ℕ
  pub consumed : Consumes l l' bytes
  pub lie : Lie bytes ms ending
  pub over : (has_last ms ≡ true) ⊎ IsAtEnd l'
  pub wrote : Appends w w' out
  pub replies : Replies s 1 began ms now out

-- the requests of what was read, up to this ending, were all replied to, and then the one that can't be read
pub record IsStopped (s : Service) (began now : Known Entry) (l l' w w' : Option (List ℕ)) (ending : Ending) (reason : Unserved) : Type 0 where
  pub ms : List Message
  pub bytes : List ℕ
  pub out : List ℕ
  pub refusal : Reply
  pub consumed : Consumes l l' bytes
  pub lie : Lie bytes ms ending
  pub refusal_is : answer_of refusal ≡ refused reason
  pub wrote : Appends w w' (out ++ reply_bytes refusal)
  pub replies : Replies s 1 began ms now out

-- the requests that stand whole in what was read were all replied to, and then a read failed
pub record IsHalted (s : Service) (began now : Known Entry) (l l' w w' : Option (List ℕ)) : Type 0 where
  pub ms : List Message
  pub rest : List ℕ
  pub out : List ℕ
  pub served : HasServed s began now l l' ms rest out
  pub undone : IsUndone rest
  pub wrote : Appends w w' out

-- the next reply was written in part
pub record IsCut (s : Service) (began now : Known Entry) (l l' w w' : Option (List ℕ)) : Type 0 where
  pub ms : List Message
  pub rest : List ℕ
  pub out : List ℕ
  pub mid : Known Entry
  pub served : HasServed s began mid l l' ms rest out
  pub next : Reply
  pub next_is : IsNext s (length ms) mid now rest next
  pub written : ℕ
  pub wrote : Appends w w' (out ++ take written (reply_bytes next))

-- the next request met the limit of the history, and those before it were replied to
pub record IsFull (s : Service) (began now : Known Entry) (l l' w w' : Option (List ℕ)) (n : ℕ) : Type 0 where
  pub ms : List Message
  pub rest : List ℕ
  pub out : List ℕ
  pub mid : Known Entry
  pub served : HasServed s began mid l l' ms rest out
  pub full : NextUnreplied s (length ms) mid now rest (why.Full n)
  pub wrote : Appends w w' out

-- memory ran out before there was a reply to the next request, and those before it were replied to
pub record IsLate (s : Service) (began now : Known Entry) (l l' w w' : Option (List ℕ)) : Type 0 where
  pub ms : List Message
  pub rest : List ℕ
  pub out : List ℕ
  pub mid : Known Entry
  pub served : HasServed s began mid l l' ms rest out
  pub unserved : (now ≡ mid) ⊎ NextUnreplied s (length ms) mid now rest why.Memory
  pub wrote : Appends w w' out

-- What was done with a connection up to this end: what it had left and what was written to it, before and now
abbrev pub Connected : Service → Known Entry → Known Entry → Option (List ℕ) → Option (List ℕ) → Option (List ℕ) → Option (List ℕ) → ConnEnd → Type 0
Connected s began now l l' w w' end.Closed = IsDone s began now l l' w w' Closed
Connected s began now l l' w w' (end.Wire wire.BadHead) = IsStopped s began now l l' w w' BadHead unserved.BadRequest
Connected s began now l l' w w' (end.Wire wire.NoLength) = IsStopped s began now l l' w w' NoLength unserved.LengthRequired
Connected s began now l l' w w' (end.Wire wire.TooLong) = IsStopped s began now l l' w w' TooLong unserved.RequestEntityTooLarge
Connected s began now l l' w w' (end.Wire wire.EndedEarly) = IsDone s began now l l' w w' EndedEarly
Connected s began now l l' w w' (end.Wire wire.ReadFault) = IsHalted s began now l l' w w'
Connected s began now l l' w w' (end.Wire wire.WriteFault) = IsCut s began now l l' w w'
Connected s began now l l' w w' (end.Wire wire.Memory) = ⊥
Connected s began now l l' w w' (end.Full n) = IsFull s began now l l' w w' n
Connected s began now l l' w w' end.Memory = IsLate s began now l l' w w' ⊎ IsCut s began now l l' w w'

-- ---- on the way

-- so many requests were read and replied to, none of which ends the connection
pub record OnWay (s : Service) (began now : Known Entry) (l l' w w' : Option (List ℕ)) (index taken : ℕ) : Type 0 where
  pub ms : List Message
  pub bytes : List ℕ
  pub out : List ℕ
  pub consumed : Consumes l l' bytes
  pub requests : AreRequests 0 bytes ms
  pub wrote : Appends w w' out
  pub replies : Replies s 1 began ms now out
  pub index_is : index ≡ length ms + 1
  pub taken_is : taken ≡ length ms
