use Rattle.std.proofs.Common.{◌≡◌, drop}
use Rattle.ckpt_journal.specs.Layout.{differs_at, magic}
use Rattle.ckpt_journal.proofs.reading.magic_fault.Given as goal

abbrev pub invariant-loop-at : goal.invariant-loop-at
invariant-loop-at l = differs_at l.at (drop l.at magic) (drop l.at l.bytes) ≡ differs_at 0 magic l.bytes
