use Rattle.std.proofs.Common.{◌≡◌, ◌<◌, ◌≤◌, ℕ, get_or, length, vec_len, vec_capacity}
use Rattle.door_ports.specs.MemDoors.{IsNewDoor}
use Rattle.door_ports.specs.declared.mem_door.MemDoor.{MemDoor}
use Rattle.door_ports.proofs.mem_doors.MemDoors.new_doors.Given as goal

abbrev pub invariant-loop-at : goal.invariant-loop-at
invariant-loop-at l = record {
  new : (i : ℕ) (d : MemDoor) → i < length l.doors.items → IsNewDoor l.self.script i l.n l.connections (get_or l.doors.items i d);
  len : vec_len l.doors ≡ l.at;
  room : l.n ≤ vec_capacity l.doors;
}
