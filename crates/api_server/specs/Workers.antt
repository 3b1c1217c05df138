-- What a worker needs of its pass, and what it did once it has ended.
use Rattle.std.specs.Prelude.{ℕ, ◌≡◌, ◌+◌, ◌≤◌, ◌<◌, ◌⊎◌, Bool, true, false, List, [], ◌∷◌}
use Rattle.cluster.specs.declared.entry.Entry.{Entry}
use Rattle.dra_ports.specs.Causes.{Rose}
use Rattle.turn_lock.specs.Known.{IsFree, IsOf, Known, Opened}
use Rattle.door_ports.specs.Shares.{IsLeft, Share, share_of}
use Rattle.api_server.specs.declared.end.ConnEnd.{ConnEnd}
use Rattle.api_server.specs.declared.end.ConnEnd.TheVariants as conn_end
use Rattle.api_server.specs.declared.share_end.ShareEnd.{ShareEnd}
use Rattle.api_server.specs.declared.share_end.ShareEnd.TheVariants as share_end
use Rattle.api_server.specs.Talks.{AllGoOn, AreNext, AtDoor, ShareDid, Talk, Terms, after_talks}

-- ---- one worker

-- what is known of a worker: its lock, how it serves, its number of so many, up to which connection, and its door
pub record Hired : Type 0 where
  pub lock : Opened Entry
  pub terms : Terms
  pub worker : ℕ
  pub workers : ℕ
  pub connections : ℕ
  pub door : AtDoor

abbrev pub hired_as : Opened Entry → ℕ → ℕ → ℕ → ℕ → ℕ → AtDoor → Hired
hired_as lock budget attempts worker workers connections door = record { lock = lock; terms = record { budget = budget; attempts = attempts }; worker = worker; workers = workers; connections = connections; door = door }

-- worker i of n, from 0, can serve its share of the connections with this pass
pub record Needs (w : Hired) (p : Known Entry) : Type 0 where
  pub of : IsOf w.lock p
  pub free : IsFree p
  pub some : 0 < w.terms.attempts
  pub below : w.worker < w.workers
  pub most : w.workers ≤ 64
  pub last : w.connections ≤ 65535
  pub share_is : w.door.share ≡ share_of w.worker w.workers w.connections

-- it served connections of its share at its door, which is now so, and ended so
pub record Gives (w : Hired) (p : Known Entry) (now : AtDoor) (end : ShareEnd) (q : Known Entry) : Type 0 where
  pub of : IsOf w.lock q
  pub free : IsFree q
  pub did : ShareDid w.terms p q w.door now end

-- ---- all of them

-- a list of one worker for each door, the first of which has this number
abbrev pub hired_lists : Opened Entry → Terms → ℕ → ℕ → ℕ → List AtDoor → List (List Hired)
hired_lists lock t workers connections worker [] = []
hired_lists lock t workers connections worker (d ∷ ds) = (record { lock = lock; terms = t; worker = worker; workers = workers; connections = connections; door = d } ∷ []) ∷ hired_lists lock t workers connections (worker + 1) ds

-- one of the connections ended so
abbrev pub HasEnd : ConnEnd → List Talk → Type 0
HasEnd e [] = ⊥
HasEnd e (k ∷ ks) = (k.end ≡ e) ⊎ HasEnd e ks

-- memory was left as it ended
abbrev pub is_kept : ConnEnd → Bool
is_kept conn_end.Closed = true
is_kept (conn_end.Wire error) = true
is_kept (conn_end.Full n) = true
is_kept conn_end.Memory = false

abbrev pub AllKept : List Talk → Type 0
AllKept [] = Unit {0}
AllKept (k ∷ ks) = (is_kept k.end ≡ true) × AllKept ks

-- how a worker ended that served these, of which the door's count of errors was and is so
abbrev pub EndsShift : List Talk → ℕ → AtDoor → ShareEnd → Type 0
EndsShift ks before now share_end.Served = AllGoOn ks × (IsLeft now.share → ⊥) × (now.faults ≡ before)
EndsShift ks before now share_end.Door = Rose before now.faults
EndsShift ks before now (share_end.Full n) = HasEnd (conn_end.Full n) ks × AllKept ks × (now.faults ≡ before)
EndsShift ks before now share_end.Memory = Unit {0}

-- a worker served these connections, the next ones of its door, and ended so
pub record IsShift (before now : AtDoor) (ks : List Talk) (end : ShareEnd) : Type 0 where
  pub next : AreNext before.share ks
  pub door : now ≡ record (after_talks before ks) { faults = now.faults }
  pub ends : EndsShift ks before.faults now end
