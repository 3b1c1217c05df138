use Rattle.std.proofs.Common.{◌≡◌, take}
use Rattle.mem_disk.specs.Stages.{bytes_from}
use Rattle.mem_disk.proofs.image.replayed.Given as goal

abbrev pub invariant-loop-change : goal.invariant-loop-change
invariant-loop-change l = l.bytes.items ≡ bytes_from l.fn.first (take l.change-index l.changes)
