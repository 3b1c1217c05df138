use Rattle.std.proofs.Common.{◌≡◌, ◌++◌, map, drop}
use Rattle.request_rows.specs.Chosen.{seat_due, slot_of}
use Rattle.request_rows.proofs.choice.add_due.Given as goal

abbrev pub invariant-loop-position : goal.invariant-loop-position
invariant-loop-position l = l.slots.items ++ map (slot_of l.row) (map seat_due (drop l.position-index l.positions)) ≡ l.fn.slots.items ++ map (slot_of l.row) (map seat_due l.positions)
