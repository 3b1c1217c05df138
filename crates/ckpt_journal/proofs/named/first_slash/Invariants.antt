use Rattle.std.proofs.Common.{◌≡◌, drop}
use Rattle.ckpt_journal.specs.Names.{first_slash_from}
use Rattle.ckpt_journal.proofs.named.first_slash.Given as goal

abbrev pub invariant-loop-at : goal.invariant-loop-at
invariant-loop-at l = first_slash_from l.at (drop l.at l.bytes) ≡ first_slash_from 0 l.bytes
