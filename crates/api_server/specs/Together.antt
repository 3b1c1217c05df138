-- What the workers of some doors did together.
use Rattle.std.specs.Prelude.{ℕ, ◌≡◌, ◌+◌, List, [], ◌∷◌, ◌++◌}
use Rattle.cluster.specs.declared.entry.Entry.{Entry}
use Rattle.api_server.specs.Ledgers.{History}
use Rattle.turn_lock.specs.Known.{Known, Opened}
use Rattle.dra_ports.specs.declared.error.PortError.{PortError}
use Rattle.dra_ports.specs.declared.error.PortError.TheVariants as port
use Rattle.door_ports.specs.Shares.{IsNew, share_of}
use Rattle.api_server.specs.declared.share_end.ShareEnd.{ShareEnd}
use Rattle.api_server.specs.declared.share_end.ShareEnd.TheVariants as share_end
use Rattle.api_server.specs.Talks.{AtDoor, Talk, Terms}
use Rattle.api_server.specs.Parts.{AllDid, Part, added_of, talks_of}
use Rattle.api_server.specs.Whole.{MadeBy}
use Rattle.api_server.specs.Workers.{IsShift}
use Rattle.api_server.specs.declared.serve_end.ServeEnd.{ServeEnd}
use Rattle.api_server.specs.declared.serve_end.ServeEnd.TheVariants as end

-- new doors, of n, the first of which has this number
abbrev pub AreOpened : ℕ → ℕ → ℕ → List AtDoor → Type 0
AreOpened i n connections [] = Unit {0}
AreOpened i n connections (d ∷ ds) = IsNew (share_of i n connections) d.share d.in_service d.served d.faults d.ended × AreOpened (i + 1) n connections ds

-- how a server ends that has no doors
abbrev pub unopened : PortError → ServeEnd
unopened port.Failed = end.Door
unopened port.Memory = end.Memory

-- how a server ends that ended so before the next of its workers did
abbrev pub worse : ServeEnd → ShareEnd → ServeEnd
worse e share_end.Served = e
worse e share_end.Memory = end.Memory
worse end.Memory share_end.Door = end.Memory
worse end.Served share_end.Door = end.Door
worse end.Door share_end.Door = end.Door
worse (end.Limit m) share_end.Door = end.Door
worse end.Memory (share_end.Full n) = end.Memory
worse end.Door (share_end.Full n) = end.Door
worse end.Served (share_end.Full n) = end.Limit n
worse (end.Limit m) (share_end.Full n) = end.Limit n

abbrev pub worst : ServeEnd → List ShareEnd → ServeEnd
worst e [] = e
worst e (x ∷ xs) = worst (worse e x) xs

-- the worker of each door served these connections, and ended so
abbrev pub AreShifts : List AtDoor → List AtDoor → List (List Talk) → List ShareEnd → Type 0
AreShifts [] [] [] [] = Unit {0}
AreShifts (d ∷ ds) (e ∷ es) (ks ∷ kss) (x ∷ xs) = IsShift d e ks x × AreShifts ds es kss xs
AreShifts _ _ _ _ = ⊥

abbrev pub flat_talks : List (List Talk) → List Talk
flat_talks [] = []
flat_talks (ks ∷ kss) = ks ++ flat_talks kss

-- workers served all these connections at doors, which were so and are so, and the server ended so
pub record Worked (before now : List AtDoor) (ks : List Talk) (e : ServeEnd) : Type 0 where
  pub shifts : List (List Talk)
  pub ends : List ShareEnd
  pub are : AreShifts before now shifts ends
  pub talks_are : ks ≡ flat_talks shifts
  pub end_is : e ≡ worst end.Served ends

-- what workers did with passes that were joined into one
pub record DidAll (t : Terms) (lock : Opened Entry) (whole : Known Entry) (before now : List AtDoor) (e : ServeEnd) : Type 0 where
  pub parts : List Part
  pub did : AllDid t lock.number whole.front parts
  pub own : whole.own ≡ added_of parts
  pub worked : Worked before now (talks_of parts) e

-- what workers made of an empty history at doors, which were so and are so, and how the server ended
pub record Ran (t : Terms) (limit : ℕ) (h : History) (before now : List AtDoor) (e : ServeEnd) : Type 0 where
  pub ks : List Talk
  pub made : MadeBy t limit h ks
  pub worked : Worked before now ks e
