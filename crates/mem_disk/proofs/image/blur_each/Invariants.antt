use Rattle.std.proofs.Common.{take}
use Rattle.dra_ports.specs.DiskContent.{IsImage}
use Rattle.mem_disk.specs.Stages.{Stage, stage_after}
use Rattle.mem_disk.proofs.image.blur_each.Given as goal

abbrev pub invariant-loop-change : goal.invariant-loop-change
invariant-loop-change l = (s : Stage) → IsImage s.sure l.fn.image.items → IsImage (stage_after s (take l.change-index l.changes)).sure l.image.items
