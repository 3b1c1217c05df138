-- What the doors of the operating system are.
use Rattle.std.specs.Prelude.{◌≡◌, ℕ}
use Rattle.door_ports.specs.Shares.{Share, share_of}
use Rattle.net_doors.specs.declared.door.NetDoor.{NetDoor}

-- the connections that a door may still accept
abbrev pub door_share : NetDoor → Share
door_share d = record { next = d.next; step = d.step; last = d.last }

-- door i of n, just opened
pub record IsNewDoor (i n connections : ℕ) (d : NetDoor) : Type 0 where
  pub share : door_share d ≡ share_of i n connections
  pub in_service : d.in_service ≡ 0
  pub served : d.served ≡ 0
  pub faults : d.faults ≡ 0
