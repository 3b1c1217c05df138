use Rattle.std.proofs.Common.{◌≡◌, ◌<◌, ◌≤◌, ℕ, get_or, length, vec_len, vec_capacity}
use Rattle.net_doors.specs.NetDoors.{IsNewDoor}
use Rattle.net_doors.specs.declared.door.NetDoor.{NetDoor}
use Rattle.net_doors.proofs.doors.new_doors.Given as goal

abbrev pub invariant-loop-at : goal.invariant-loop-at
invariant-loop-at l = record {
  new : (i : ℕ) (d : NetDoor) → i < length l.doors.items → IsNewDoor i l.n l.connections (get_or l.doors.items i d);
  len : vec_len l.doors ≡ l.at;
  room : l.n ≤ vec_capacity l.doors;
}
