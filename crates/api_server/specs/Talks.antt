-- The connections that one worker serves, one after another.
use Rattle.std.specs.Prelude.{ℕ, ◌≡◌, ◌⊎◌, ◌+◌, Bool, true, false, List, [], ◌∷◌, Option, None, Some, IfSome}
use Rattle.cluster.specs.declared.entry.Entry.{Entry}
use Rattle.turn_lock.specs.Known.{Known}
use Rattle.dra_ports.specs.Causes.{Rose}
use Rattle.dra_ports.specs.declared.error.PortError.{PortError}
use Rattle.dra_ports.specs.declared.error.PortError.TheVariants as port
use Rattle.door_ports.specs.Shares.{IsLeft, Share, advanced}
use Rattle.door_ports.specs.Visits.{Ended, exposed, with_ended}
use Rattle.api_server.specs.Connections.{Connected}
use Rattle.api_server.specs.EndCauses.{HasEndCause}
use Rattle.api_server.specs.declared.end.ConnEnd.{ConnEnd}
use Rattle.api_server.specs.declared.end.ConnEnd.TheVariants as conn_end
use Rattle.api_server.specs.declared.share_end.ShareEnd.{ShareEnd}
use Rattle.api_server.specs.declared.share_end.ShareEnd.TheVariants as share_end

-- A connection that was served: its number, what it had left and what was written to it, before and after, its count of
-- errors, and how it ended.
pub record Talk : Type 0 where
  pub number : ℕ
  pub left_before : Option (List ℕ)
  pub left_after : Option (List ℕ)
  pub written_before : Option (List ℕ)
  pub written_after : Option (List ℕ)
  pub faults : ℕ
  pub end : ConnEnd

-- how every connection is served
pub record Terms : Type 0 where
  pub budget : ℕ
  pub attempts : ℕ

-- the connection was served with a pass
pub record IsTalk (t : Terms) (old new : Known Entry) (k : Talk) : Type 0 where
  pub connected : Connected (record { number = k.number; budget = t.budget; attempts = t.attempts }) old new k.left_before k.left_after k.written_before k.written_after k.end
  pub cause : HasEndCause 0 k.faults k.end
  pub unwritten : IfSome k.written_before (λ bytes. bytes ≡ [])

-- the connections were served one after another, each from where the pass was
abbrev pub AreTalks : Terms → Known Entry → Known Entry → List Talk → Type 0
AreTalks t old new [] = new ≡ old
AreTalks t old new (k ∷ ks) = (mid : Known Entry) × IsTalk t old mid k × AreTalks t mid new ks

-- what a door exposes of a connection that ended at it
abbrev pub told : Talk → Option Ended
told k = exposed k.number k.left_before k.left_after k.written_before k.written_after k.faults

-- the connection ended, and the worker goes on
abbrev pub goes_on : ConnEnd → Bool
goes_on conn_end.Closed = true
goes_on (conn_end.Wire error) = true
goes_on (conn_end.Full n) = false
goes_on conn_end.Memory = false

-- how the service of all connections ends after one of them ended so, if it does
abbrev pub stop_after : ConnEnd → Option ShareEnd
stop_after conn_end.Closed = None
stop_after (conn_end.Wire error) = None
stop_after (conn_end.Full n) = Some (share_end.Full n)
stop_after conn_end.Memory = Some share_end.Memory

-- how it ends if no connection is accepted
abbrev pub unaccepted : PortError → ShareEnd
unaccepted port.Failed = share_end.Door
unaccepted port.Memory = share_end.Memory

-- ---- a door

-- what is known of a door: the connections that it may still accept, how many are in service and were served, what is exposed
-- of those that ended, and its count of errors
pub record AtDoor : Type 0 where
  pub share : Share
  pub in_service : ℕ
  pub served : ℕ
  pub ended : Option (List Ended)
  pub faults : ℕ

-- what is known of a door of some kind
abbrev pub seen : {D : Type 0} → (D → Share) → (D → ℕ) → (D → ℕ) → (D → Option (List Ended)) → (D → ℕ) → D → AtDoor
seen share in_service served ended faults d = record { share = share d; in_service = in_service d; served = served d; ended = ended d; faults = faults d }

-- the door after it accepted a connection, and took it back
abbrev pub after_talk : AtDoor → Talk → AtDoor
after_talk d k = record { share = advanced d.share; in_service = d.in_service; served = d.served + 1; ended = with_ended d.ended (told k); faults = d.faults }

-- the door after these
abbrev pub after_talks : AtDoor → List Talk → AtDoor
after_talks d [] = d
after_talks d (k ∷ ks) = after_talks (after_talk d k) ks

-- the connections were the next ones of the door
abbrev pub AreNext : Share → List Talk → Type 0
AreNext s [] = Unit {0}
AreNext s (k ∷ ks) = IsLeft s × (k.number ≡ s.next) × AreNext (advanced s) ks

-- the connections of the door were served one after another
pub record Served (t : Terms) (old new : Known Entry) (before now : AtDoor) (ks : List Talk) : Type 0 where
  pub talks : AreTalks t old new ks
  pub next : AreNext before.share ks
  pub door : now ≡ after_talks before ks

-- the next connection was served, and ended so
pub record ServedOne (t : Terms) (old new : Known Entry) (before now : AtDoor) (end : ConnEnd) : Type 0 where
  pub talk : Talk
  pub served : Served t old new before now (talk ∷ [])
  pub end_is : talk.end ≡ end

-- nothing was accepted: the door is as it was, but for its count of errors
pub record Unaccepted (old new : Known Entry) (before now : AtDoor) : Type 0 where
  pub pass : new ≡ old
  pub door : now ≡ record before { faults = now.faults }

-- one connection: the worker goes on after it, or ends so
abbrev pub NextDid : Terms → Known Entry → Known Entry → AtDoor → AtDoor → Option ShareEnd → Type 0
NextDid t old new before now None = (e : ConnEnd) × ServedOne t old new before now e × (goes_on e ≡ true)
NextDid t old new before now (Some share_end.Served) = ⊥
NextDid t old new before now (Some share_end.Door) = Unaccepted old new before now × Rose before.faults now.faults
NextDid t old new before now (Some (share_end.Full n)) = ServedOne t old new before now (conn_end.Full n)
NextDid t old new before now (Some share_end.Memory) = ServedOne t old new before now conn_end.Memory ⊎ ((new ≡ old) × (now ≡ before))

-- ---- a share

-- the worker went on after each of them
abbrev pub AllGoOn : List Talk → Type 0
AllGoOn [] = Unit {0}
AllGoOn (k ∷ ks) = (goes_on k.end ≡ true) × AllGoOn ks

-- Connections of the door were served, after each of which the worker goes on
pub record WentOn (t : Terms) (old new : Known Entry) (before now : AtDoor) : Type 0 where
  pub ks : List Talk
  pub served : Served t old new before now ks
  pub go_on : AllGoOn ks

-- and then the next step ended the service
pub record Stopped (t : Terms) (old new : Known Entry) (before now : AtDoor) (end : ShareEnd) : Type 0 where
  pub mid : Known Entry
  pub door : AtDoor
  pub went_on : WentOn t old mid before door
  pub last : NextDid t mid new door now (Some end)

-- what a worker did: each connection of the share was served, or the service ended early
abbrev pub ShareDid : Terms → Known Entry → Known Entry → AtDoor → AtDoor → ShareEnd → Type 0
ShareDid t old new before now share_end.Served = WentOn t old new before now × (IsLeft now.share → ⊥)
ShareDid t old new before now share_end.Door = Stopped t old new before now share_end.Door
ShareDid t old new before now (share_end.Full n) = Stopped t old new before now (share_end.Full n)
ShareDid t old new before now share_end.Memory = Stopped t old new before now share_end.Memory
