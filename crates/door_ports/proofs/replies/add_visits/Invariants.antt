use Rattle.std.proofs.Common.{◌≡◌, ◌++◌, map, take}
use Rattle.door_ports.specs.MemDoors.{mem_ending}
use Rattle.door_ports.proofs.replies.add_visits.Given as goal

abbrev pub invariant-loop-visit : goal.invariant-loop-visit
invariant-loop-visit l = record {
  visits : map (λ v. mem_ending v.now) l.visits.items ≡ map (λ v. mem_ending v.now) l.fn.visits.items ++ map mem_ending (take l.visit-index l.visit-items);
  all : l.visit-items ≡ l.fn.door.ended.items;
}
