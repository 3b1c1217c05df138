-- The part of each connection in what workers made of a history.
use Rattle.std.specs.Prelude.{ℕ, ◌≡◌, ◌≤◌, List, [], ◌∷◌, ◌++◌}
use mathlib.Core.List.{IsPrefix}
use Rattle.cluster.specs.declared.entry.Entry.{Entry}
use Rattle.turn_lock.specs.Known.{IsFree, Known}
use Rattle.api_server.specs.Ledgers.{with_added}
use Rattle.api_server.specs.Connections.{job_of}
use Rattle.api_server.specs.Entries.{AreEntries}
use Rattle.api_server.specs.Talks.{IsTalk, Talk, Terms}

-- a connection that was served, with its pass before and after, and the indices of its entries
pub record Part : Type 0 where
  pub talk : Talk
  pub old : Known Entry
  pub new : Known Entry
  pub added : List ℕ

-- the entry is of one of the connection's jobs
abbrev pub IsOfJob : Talk → Entry → Type 0
IsOfJob k e = (i : ℕ) × (i ≤ 65535) × (e.job ≡ job_of k.number i)

-- it was served with its pass, of a state with this number, and made these entries
pub record PartDid (t : Terms) (number : ℕ) (h : List Entry) (p : Part) : Type 0 where
  pub free : IsFree p.old
  pub is : IsTalk t p.old p.new p.talk
  pub number_is : p.new.number ≡ number
  pub added_is : p.new ≡ with_added p.old p.new.front p.added
  pub begins : IsPrefix p.new.front h
  pub made : AreEntries (IsOfJob p.talk) 0 h p.added

abbrev pub AllDid : Terms → ℕ → List Entry → List Part → Type 0
AllDid t number h [] = Unit {0}
AllDid t number h (p ∷ ps) = PartDid t number h p × AllDid t number h ps

abbrev pub added_of : List Part → List ℕ
added_of [] = []
added_of (p ∷ ps) = p.added ++ added_of ps

abbrev pub talks_of : List Part → List Talk
talks_of [] = []
talks_of (p ∷ ps) = p.talk ∷ talks_of ps
