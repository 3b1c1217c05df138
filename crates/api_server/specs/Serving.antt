-- What a server prints.
use Rattle.std.specs.Prelude.{ℕ, ◌≡◌, ◌⊎◌, ◌+◌, ◌-◌, ◌^◌, ◌≤◌, List, [], Option, count_by, length, min}
use Rattle.std.specs.Io.KnownBytes.{Appends}
use Rattle.dra_ports.specs.Prefixes.{AppendsPrefix}
use Rattle.cluster.specs.Events.{job_state_after}
use Rattle.cluster.specs.declared.entry.Entry.{Entry}
use Rattle.cluster.specs.declared.entry.JobState.TheVariants as job_state
use Rattle.histories.specs.Histories.{Each}
use Rattle.histories.specs.JobRuns.{is_ended}
use Rattle.histories.specs.Legal.{Legal}
use Rattle.journal_text.specs.Journal.{lines_from, text_of}
use Rattle.door_ports.specs.Visits.{Ended}
use Rattle.api_server.specs.Talks.{AllGoOn, Terms}
use Rattle.api_server.specs.Visits.{AreVisits, OfMet, OfSome, OfVisit, SomeMet, Visit, visited}
use Rattle.api_server.specs.Whole.{AreAll, Tells}
use Rattle.api_server.specs.declared.options.ServeOptions.{ServeOptions}
use Rattle.api_server.specs.declared.options.ServeStatus.{ServeStatus}
use Rattle.api_server.specs.declared.options.ServeStatus.TheVariants as status

abbrev pub terms_of : ServeOptions → Terms
terms_of o = record { budget = o.budget; attempts = o.attempts }

-- how many jobs have ended: each has one entry that ends it
abbrev pub jobs_ended : List Entry → ℕ
jobs_ended h = count_by (λ e. is_ended (job_state_after job_state.Fresh 0 e.event)) h

-- ---- the history

-- the history that serving all connections made, each of which is the next of its worker after it: each of its jobs is that
-- of a request, and was run to its end
pub record IsServed (o : ServeOptions) (h : List Entry) (vs : List Visit) : Type 0 where
  pub legal : Legal h
  pub within : length h ≤ o.entries
  pub are : AreVisits (terms_of o) h vs
  pub go_on : AllGoOn (visited vs)
  pub all : AreAll o.connections (visited vs)
  pub jobs : Each (λ before e. OfSome (OfVisit (terms_of o) h) vs e) [] h

-- the history that met the limit: each of its jobs is that of a request, and was run to its end or was begun, one at least
-- of the latter
pub record IsFull (o : ServeOptions) (h : List Entry) (vs : List Visit) : Type 0 where
  pub legal : Legal h
  pub count : length h ≡ o.entries
  pub are : AreVisits (terms_of o) h vs
  pub met : SomeMet (terms_of o) h vs
  pub jobs : Each (λ before e. OfSome (OfMet (terms_of o) h) vs e) [] h

-- ---- the text

-- the lines and the summary of such a history, whose connections are those that doors expose
pub record IsText (o : ServeOptions) (ended ended' : Option (List Ended)) (text : List ℕ) : Type 0 where
  pub history : List Entry
  pub visits : List Visit
  pub served : IsServed o history visits
  pub tells : Tells ended ended' (visited visits)
  pub is : text ≡ text_of history (jobs_ended history)

-- the lines of a history that met the limit, likewise
pub record IsFullText (o : ServeOptions) (ended ended' : Option (List Ended)) (text : List ℕ) : Type 0 where
  pub history : List Entry
  pub visits : List Visit
  pub full : IsFull o history visits
  pub tells : Tells ended ended' (visited visits)
  pub is : text ≡ lines_from 0 history

-- a prefix of one of both was printed
pub record PrintsPart (o : ServeOptions) (ended ended' : Option (List Ended)) (old new : Option (List ℕ)) : Type 0 where
  pub text : List ℕ
  pub of_one : IsText o ended ended' text ⊎ IsFullText o ended ended' text
  pub printed : AppendsPrefix old new text

-- such a text was printed
pub record Prints (P : List ℕ → Type 0) (old new : Option (List ℕ)) : Type 0 where
  pub text : List ℕ
  pub fact : P text
  pub printed : Appends old new text

-- what was printed, with each status; with Done the count of connections rose by all, or is at its maximum
abbrev pub PrintsSo : ServeOptions → ℕ → ℕ → Option (List Ended) → Option (List Ended) → Option (List ℕ) → Option (List ℕ) → ServeStatus → Type 0
PrintsSo o served served' ended ended' old new status.Done = Prints (IsText o ended ended') old new × (served' ≡ min (served + o.connections) (2 ^ 64 - 1))
PrintsSo o served served' ended ended' old new status.Memory = PrintsPart o ended ended' old new ⊎ (new ≡ old)
PrintsSo o served served' ended ended' old new status.Write = PrintsPart o ended ended' old new
PrintsSo o served served' ended ended' old new status.Door = new ≡ old
PrintsSo o served served' ended ended' old new (status.Limit count) = Prints (IsFullText o ended ended') old new × (count ≡ o.entries)
