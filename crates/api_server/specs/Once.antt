-- A command whose job has one entry.
use Rattle.std.specs.Prelude.{ℕ, ◌≡◌, ◌≤◌, Bool, true, false, List, [], ◌∷◌, ◌++◌, Option, Some, None, Result, Err, IfOk, IfErr, length}
use mathlib.Core.List.{IsPrefix}
use Rattle.cluster.specs.declared.entry.Command.TheVariants as asked
use Rattle.cluster.specs.declared.entry.Entry.{Entry}
use Rattle.cluster.specs.declared.entry.Event.{Event}
use Rattle.cluster.specs.declared.entry.Event.TheVariants.{Applied, Deleted, Reserved, Refused, Wrote, Conflict, Unreserved, Bound, VerdictGiven, Contended, Released, Adopted, Denied}
use Rattle.cluster.specs.declared.entry.Refusal.TheVariants as refusal
use Rattle.cluster.specs.declared.state.State.{State}
use Rattle.cluster.specs.declared.entry.JobState.TheVariants.{Fresh}
use Rattle.cluster.specs.History.{entry_at, job_state_of, state_of}
use Rattle.commands.specs.declared.command.Command.{Command}
use Rattle.commands.specs.declared.command.Command.TheVariants.{Apply, Invalid, Delete, Schedule, Release, Adopt}
use Rattle.histories.specs.Adopted.{adoption}
use Rattle.histories.specs.Applied.{application}
use Rattle.histories.specs.Deleted.{deletion}
use Rattle.histories.specs.Legal.{Legal}
use Rattle.sched_job.specs.Ledgers.{History}
use Rattle.sched_job.specs.Ledgers.{LedgerError}
use Rattle.sched_job.specs.Ledgers.ledger_error as ledger_error
use Rattle.turn_lock.specs.Known.{Known, entered, left}
use Rattle.http_wire.specs.declared.reply.Reply.{Reply}
use Rattle.api_print.specs.Parts.{part_json}
use Rattle.api_replies.specs.Answers.{answer_of, ended, json_after}
use Rattle.api_server.specs.declared.task.Unreplied.{Unreplied}
use Rattle.api_server.specs.declared.task.Unreplied.TheVariants as why
use Rattle.api_server.specs.declared.once.Acted.{Acted}
use Rattle.api_server.specs.declared.once.Acted.TheVariants as acted
use Rattle.api_server.specs.declared.once.Ended.{Ended}
use Rattle.histories.specs.Released.{release_of}

-- the event that carries out the command
abbrev pub event_of : State → Command → Event
event_of s (Apply object mode) = application s object mode
event_of s (Invalid error) = Denied (asked.Invalid error) refusal.Invalid
event_of s (Delete target) = deletion s target
event_of s (Schedule pod attempts) = Contended pod attempts
event_of s (Release pod) = release_of s pod
event_of s (Adopt claim status) = adoption s claim status

-- the entry that carries out the command
abbrev pub entry_of : List Entry → ℕ → Command → Entry
entry_of h job command = record { job = job; event = event_of (state_of h) command }

-- the last entry, and what its reply shows of the state after all
pub record IsCaptured (h : List Entry) (x : Ended) : Type 0 where
  pub place : x.place ≡ length h
  pub entry : entry_at h (length h) ≡ Some x.entry
  pub shows : part_json x.part ≡ json_after (state_of h) x.entry.event

abbrev pub Captures : List Entry → Option Ended → Type 0
Captures h None = Unit {0}
Captures h (Some x) = IsCaptured h x

-- the job had no entry, and this one carries out the command
pub record IsMade (old new : List Entry) (job : ℕ) (command : Command) : Type 0 where
  pub fresh : job_state_of old job ≡ Fresh
  pub is : new ≡ old ++ entry_of old job command ∷ []
  pub legal : Legal new

pub record IsFailed (limit : ℕ) (old new : List Entry) (error : LedgerError) : Type 0 where
  pub same : new ≡ old
  pub full : (n : ℕ) → error ≡ ledger_error.Full n → (length old ≡ n) × (limit ≤ n)
  pub legal : Legal new

-- what a turn did, over the entries that it found
abbrev pub Did : ℕ → List Entry → List Entry → ℕ → Command → Acted → Type 0
Did limit old new job command (acted.Ended x) = IsMade old new job command × IsCaptured new x
Did limit old new job command acted.Made = IsMade old new job command
Did limit old new job command (acted.Failed error) = IsFailed limit old new error

abbrev pub Acts : History → History → ℕ → Command → Acted → Type 0
Acts old new job command a = Did old.limit old.entries new.entries job command a × (new.limit ≡ old.limit)

-- the turn found this history, which begins with the pass's front
pub record TookOnce (number : ℕ) (old new : Known Entry) (job : ℕ) (command : Command) (a : Acted) : Type 0 where
  pub found : List Entry
  pub begins : IsPrefix old.front found
  pub pass : new ≡ left (entered old found) new.front
  pub did : Did number found new.front job command a

-- why a command isn't replied to whose turn failed
abbrev pub unreplied : LedgerError → Unreplied
unreplied (ledger_error.Full n) = why.Full n
unreplied ledger_error.Memory = why.Memory

-- the reply by what a turn did, or why there is none
abbrev pub RepliesBy : Acted → Result Reply Unreplied → Type 0
RepliesBy (acted.Ended x) r = ((s : State) → part_json x.part ≡ json_after s x.entry.event → IfOk r (λ p. answer_of p ≡ ended s x.place x.entry)) × IfErr r (λ e. e ≡ why.Memory)
RepliesBy acted.Made r = r ≡ Err why.Memory
RepliesBy (acted.Failed error) r = r ≡ Err (unreplied error)

-- the reply by an entry that was looked up at an index, which doesn't depend on the state
abbrev pub RepliesFound : Option Entry → ℕ → Result Reply Unreplied → Type 0
RepliesFound (Some e) place r = IfOk r (λ p. (s : State) → answer_of p ≡ ended s place e) × IfErr r (λ e. e ≡ why.Memory)
RepliesFound None place r = r ≡ Err why.Memory

-- the reply by the event depends on the state
abbrev pub needs_state : Event → Bool
needs_state (Applied object mode) = true
needs_state (Deleted target) = false
needs_state (Reserved pod plan) = false
needs_state (Refused pod plan why) = false
needs_state (Wrote pod claim seen) = false
needs_state (Conflict pod claim had now) = false
needs_state (Unreserved pod) = false
needs_state (Bound pod node) = false
needs_state (VerdictGiven pod verdict) = false
needs_state (Contended pod attempts) = false
needs_state (Released pod) = false
needs_state (Adopted claim status) = true
needs_state (Denied command refusal) = false
