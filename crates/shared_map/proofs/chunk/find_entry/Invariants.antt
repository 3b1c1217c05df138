use Rattle.std.proofs.Common.{◌-◌, ◌≤◌, length, take, drop}
use Rattle.shared_map.specs.Chunks.{AreBelow, AreAbove}
use Rattle.shared_map.proofs.chunk.find_entry.Given as goal

abbrev pub invariant-loop-from : goal.invariant-loop-from
invariant-loop-from g l = record { order : l.from ≤ l.to; within : l.to ≤ length l.entries; below : AreBelow g.K.Ord.cmp l.key (take l.from l.entries); above : AreAbove g.K.Ord.cmp l.key (drop l.to l.entries) }

abbrev pub decreases-loop-from : goal.decreases-loop-from
decreases-loop-from g l = l.to - l.from
