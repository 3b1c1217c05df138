use Rattle.std.proofs.Common.{◌≡◌, ℕ, List, Option, length}
use Rattle.dra_ports.specs.DiskContent.{Agrees}
use Rattle.mem_disk.specs.Stages.{gapped}
use Rattle.mem_disk.proofs.image.choose.Given as goal

abbrev pub invariant-loop-index : goal.invariant-loop-index
invariant-loop-index l = record {
  len : length l.image ≡ length l.fn.image;
  agrees : (places : List (Option ℕ)) → Agrees places l.fn.image → Agrees (gapped l.at l.count places) l.image;
}
