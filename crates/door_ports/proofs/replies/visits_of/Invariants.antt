use Rattle.std.proofs.Common.{◌≡◌, ◌++◌, drop, map}
use Rattle.door_ports.specs.MemDoors.{ended_in, mem_ending}
use Rattle.door_ports.proofs.replies.visits_of.Given as goal

abbrev pub invariant-loop-doors : goal.invariant-loop-doors
invariant-loop-doors l = map (λ v. mem_ending v.now) l.visits.items ++ ended_in (drop l.doors-index l.closed) ≡ ended_in l.closed
