use Rattle.std.proofs.Common.{◌-◌, ◌<◌, ◌≤◌, length, take, drop}
use Rattle.shared_map.specs.Chunks.{joined, AreBelow, AreAbove}
use Rattle.shared_map.proofs.group.chunk_of.Given as goal

abbrev pub invariant-loop-to : goal.invariant-loop-to
invariant-loop-to g l = record { order : l.from < l.to; within : l.to ≤ length l.chunks; below : AreBelow g.K.Ord.cmp l.key (joined (take l.from l.chunks)); above : AreAbove g.K.Ord.cmp l.key (joined (drop l.to l.chunks)) }

abbrev pub decreases-loop-to : goal.decreases-loop-to
decreases-loop-to g l = l.to - l.from
