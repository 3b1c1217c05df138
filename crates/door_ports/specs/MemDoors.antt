-- What doors in memory expose, and when they fail.
use Rattle.std.specs.Prelude.{◌≡◌, ℕ, ◌-◌, Bool, List, [], Option, None, Some, Result, Ok, Err, if◌then◌else◌, length, map, nat_eq, slice_get, take}
use Rattle.std.specs.Global.{Vec}
use Rattle.std.specs.List.{flat_map, list_any}
use Rattle.dra_ports.specs.Causes.{next_count}
use Rattle.dra_ports.specs.Conn.{conn_left, conn_piece, conn_plan, conn_written}
use Rattle.dra_ports.specs.Memory.{new_plan}
use Rattle.dra_ports.specs.declared.mem_conn.MemConn.{MemConn}
use Rattle.dra_ports.specs.declared.error.PortError.{PortError}
use Rattle.dra_ports.specs.declared.error.PortError.TheVariants.{Failed, Memory}
use Rattle.door_ports.specs.Visits.{Ended, Visit}
use Rattle.door_ports.specs.Shares.{Share, share_of}
use Rattle.door_ports.specs.declared.accepted.Accepted.{Accepted}
use Rattle.door_ports.specs.declared.script.MemInput.{MemInput}
use Rattle.door_ports.specs.declared.script.Script.{Script}
use Rattle.door_ports.specs.declared.mem_door.MemDoor.{MemDoor}

-- what a connection in memory that ends exposes
abbrev pub mem_ending : Visit MemConn → Ended
mem_ending v = record {
  number = v.number;
  read = take (length (conn_left v.start) - length (conn_left v.conn)) (conn_left v.start);
  left = conn_left v.conn;
  written = conn_written v.conn;
  faults = (conn_plan v.conn).faults;
}

-- the connections that have ended at a door
abbrev pub mem_ended : MemDoor → List Ended
mem_ended d = map mem_ending d.ended.items

-- the connections that have ended at these doors
abbrev pub ended_in : List (Vec MemDoor) → List Ended
ended_in lists = flat_map (λ doors. flat_map mem_ended doors.items) lists

-- the connections that a door may still accept
abbrev pub door_share : MemDoor → Share
door_share d = record { next = d.next; step = d.step; last = d.last }

-- the call with this number is to fail
abbrev pub fails_at : Script → ℕ → Bool
fails_at s call = list_any (λ n. nat_eq n call) s.failing.items

-- the input of the next connection, unless its acceptance is to fail or there is no such input
abbrev pub coming : MemDoor → Option MemInput
coming d = if fails_at d.script (next_count d.next) then None else slice_get d.script.inputs.items (d.next - 1)

-- a new connection with this input
pub record IsOf (input : MemInput) (conn : MemConn) : Type 0 where
  pub left : conn_left conn ≡ input.bytes.items
  pub written : conn_written conn ≡ []
  pub piece : conn_piece conn ≡ input.piece
  pub plan : conn_plan conn ≡ new_plan input.failing.items

-- The result of an acceptance, as a connection, where this is the input for it, or where there is none.
abbrev pub Connects : Option MemInput → Result MemConn PortError → Type 0
Connects None result = result ≡ Err Failed
Connects (Some input) (Ok conn) = IsOf input conn
Connects (Some input) (Err e) = e ≡ Memory

-- the same, as a connection with its number
abbrev pub Accepts : Option MemInput → Result (Accepted MemConn) PortError → Type 0
Accepts None result = result ≡ Err Failed
Accepts (Some input) (Ok a) = IsOf input a.conn
Accepts (Some input) (Err e) = e ≡ Memory

-- door i of n, just opened
pub record IsNewDoor (s : Script) (i n connections : ℕ) (d : MemDoor) : Type 0 where
  pub script : d.script ≡ s
  pub share : door_share d ≡ share_of i n connections
  pub in_service : d.in_service ≡ 0
  pub ended : d.ended.items ≡ []
  pub faults : d.faults ≡ 0
