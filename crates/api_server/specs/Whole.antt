-- What a server made of an empty history, and how it ended.
use Rattle.std.specs.Prelude.{ℕ, ◌≡◌, ◌⊎◌, ◌+◌, ◌-◌, ◌^◌, ◌≤◌, ◌<◌, List, [], ◌∷◌, ◌++◌, Option, None, Some, length, map, min}
use mathlib.Core.List.{IsPrefix}
use Rattle.cluster.specs.declared.entry.Entry.{Entry}
use Rattle.turn_lock.specs.Known.{IsFree, Known}
use Rattle.turn_lock.specs.Places.{times}
use Rattle.histories.specs.Histories.{Each}
use Rattle.histories.specs.Legal.{Legal}
use Rattle.api_server.specs.Ledgers.{AllIn}
use Rattle.api_server.specs.Ledgers.{History}
use Rattle.dra_ports.specs.Causes.{Rose}
use Rattle.door_ports.specs.Visits.{Ended}
use Rattle.api_server.specs.Connections.{job_of}
use Rattle.api_server.specs.declared.end.ConnEnd.TheVariants as conn_end
use Rattle.api_server.specs.Talks.{AllGoOn, IsTalk, Talk, Terms, told}
use Rattle.api_server.specs.Workers.{AllKept, HasEnd}
use Rattle.api_server.specs.declared.serve_end.ServeEnd.{ServeEnd}
use Rattle.api_server.specs.declared.serve_end.ServeEnd.TheVariants as end

-- ---- the history

-- the connection was served with a pass, whose front the history begins with and whose number is that of the lock, and each
-- entry of its jobs was made meanwhile
pub record StandsIn (t : Terms) (number : ℕ) (h : List Entry) (k : Talk) : Type 0 where
  pub old : Known Entry
  pub new : Known Entry
  pub free : IsFree old
  pub is : IsTalk t old new k
  pub begins : IsPrefix new.front h
  pub number_is : new.number ≡ number
  pub added : List ℕ
  pub made : new.own ≡ old.own ++ added
  pub alone : (index : ℕ) → index ≤ 65535 → AllIn (job_of k.number index) added h

abbrev pub AllStandIn : Terms → ℕ → List Entry → List Talk → Type 0
AllStandIn t number h [] = Unit {0}
AllStandIn t number h (k ∷ ks) = StandsIn t number h k × AllStandIn t number h ks

-- the entry is of a job of one of these connections
abbrev pub IsOfTalk : List Talk → Entry → Type 0
IsOfTalk [] e = ⊥
IsOfTalk (k ∷ ks) e = ((index : ℕ) × (index ≤ 65535) × (e.job ≡ job_of k.number index)) ⊎ IsOfTalk ks e

-- the history is what serving these connections made of an empty one
pub record MadeBy (t : Terms) (limit : ℕ) (h : History) (ks : List Talk) : Type 0 where
  pub legal : Legal h.entries
  pub limit_is : h.limit ≡ limit
  pub within : length h.entries ≤ limit
  pub stand : AllStandIn t limit h.entries ks
  pub no_other : Each (λ before e. IsOfTalk ks e) [] h.entries

-- ---- the doors

-- these connections are exposed so
abbrev pub AreTold : List Talk → List Ended → Type 0
AreTold [] [] = Unit {0}
AreTold (k ∷ ks) (x ∷ xs) = (told k ≡ Some x) × AreTold ks xs
AreTold _ _ = ⊥

-- what is exposed now, if anything is, is what was exposed before, and these connections
abbrev pub Tells : Option (List Ended) → Option (List Ended) → List Talk → Type 0
Tells old None ks = Unit {0}
Tells old (Some all) ks = (es xs : List Ended) × (old ≡ Some es) × (all ≡ es ++ xs) × AreTold ks xs

-- ---- the end

abbrev pub numbers_of : List Talk → List ℕ
numbers_of [] = []
numbers_of (k ∷ ks) = k.number ∷ numbers_of ks

-- these are the connections from 1 to `last`, each once
pub record AreAll (last : ℕ) (ks : List Talk) : Type 0 where
  pub count : length ks ≡ last
  pub each : (n : ℕ) → 0 < n → n ≤ last → times n (numbers_of ks) ≡ 1

-- how a server ended over `last` connections, of which it served these, with the doors' count of errors before and now
abbrev pub EndsSo : ℕ → List Talk → ℕ → ℕ → ServeEnd → Type 0
EndsSo last ks before now end.Served = AllGoOn ks × AreAll last ks × (now ≡ before)
EndsSo last ks before now end.Memory = before ≤ now
EndsSo last ks before now end.Door = Rose before now × (before ≤ now)
EndsSo last ks before now (end.Limit n) = HasEnd (conn_end.Full n) ks × AllKept ks × (now ≡ before)

-- what a server did
pub record Serves (t : Terms) (last limit : ℕ) (h : History) (served served_now : ℕ) (ended ended_now : Option (List Ended)) (before now : ℕ) (result : ServeEnd) : Type 0 where
  pub ks : List Talk
  pub made : MadeBy t limit h ks
  pub count : result ≡ end.Served → served_now ≡ min (served + length ks) (2 ^ 64 - 1)
  pub tells : Tells ended ended_now ks
  pub ends : EndsSo last ks before now result
