use Rattle.std.proofs.Common.{◌+◌, ◌-◌, length}
use Rattle.mem_disk.specs.Stages.{StartsWith}
use Rattle.mem_disk.proofs.image.lengthen.Given as goal

abbrev pub invariant-loop-image : goal.invariant-loop-image
invariant-loop-image l = StartsWith l.image.items l.fn.image.items

abbrev pub decreases-loop-image : goal.decreases-loop-image
decreases-loop-image l = length l.bytes + l.more - length l.image.items
