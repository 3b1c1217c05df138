use Rattle.std.proofs.Common.{◌≡◌, ◌++◌, map}
use Rattle.request_rows.specs.Chosen.{seats_repeated, slot_of}
use Rattle.request_rows.proofs.choice.add_next.Given as goal

abbrev pub invariant-loop-left : goal.invariant-loop-left
invariant-loop-left l = l.slots.items ++ map (slot_of l.row) (seats_repeated l.left) ≡ l.fn.slots.items ++ map (slot_of l.row) (seats_repeated l.count)

abbrev pub decreases-loop-left : goal.decreases-loop-left
decreases-loop-left l = l.left
