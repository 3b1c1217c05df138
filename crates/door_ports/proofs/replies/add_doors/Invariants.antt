use Rattle.std.proofs.Common.{◌≡◌, ◌++◌, drop, map}
use Rattle.std.specs.List.{flat_map}
use Rattle.door_ports.specs.MemDoors.{mem_ended, mem_ending}
use Rattle.door_ports.proofs.replies.add_doors.Given as goal

abbrev pub invariant-loop-door : goal.invariant-loop-door
invariant-loop-door l = map (λ v. mem_ending v.now) l.visits.items ++ flat_map mem_ended (drop l.door-index l.doors) ≡ map (λ v. mem_ending v.now) l.fn.visits.items ++ flat_map mem_ended l.doors
