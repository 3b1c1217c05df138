-- What is done for a request.
use Rattle.std.specs.Prelude.{ℕ, ◌≡◌, ◌⊎◌, Result, Ok, Err}
use Rattle.cluster.specs.declared.entry.Entry.{Entry}
use Rattle.turn_lock.specs.Known.{Known}
use Rattle.http_wire.specs.declared.reply.Reply.{Reply}
use Rattle.api_routes.specs.declared.unserved.Unserved.{Unserved}
use Rattle.api_requests.specs.declared.task.Task.{Task}
use Rattle.api_replies.specs.Answers.{answer_of, refused}
use Rattle.api_server.specs.Served.{Serves}
use Rattle.api_server.specs.declared.task.Unreplied.{Unreplied}
use Rattle.api_server.specs.declared.task.Unreplied.TheVariants as why

-- the reply to a request that is refused before it is a command
abbrev pub IsRefused : Unserved → Result Reply Unreplied → Type 0
IsRefused reason (Ok p) = answer_of p ≡ refused reason
IsRefused reason (Err (why.Full n)) = ⊥
IsRefused reason (Err why.Memory) = Unit {0}

abbrev pub ServesBy : ℕ → ℕ → Result Task Unserved → Known Entry → Known Entry → Result Reply Unreplied → Type 0
ServesBy job budget (Ok task) old new r = Serves job budget task old new r
ServesBy job budget (Err reason) old new r = (new ≡ old) × IsRefused reason r

-- what the request asks for was done, or memory ran out before anything was
abbrev pub ServesRequest : ℕ → ℕ → Result Task Unserved → Known Entry → Known Entry → Result Reply Unreplied → Type 0
ServesRequest job budget asked old new r = ServesBy job budget asked old new r ⊎ ((new ≡ old) × (r ≡ Err why.Memory))
