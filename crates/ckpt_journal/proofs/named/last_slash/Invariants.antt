use Rattle.std.proofs.Common.{◌≡◌, ◌<◌, drop, None, IfSome}
use Rattle.ckpt_journal.specs.Names.{last_slash_from}
use Rattle.ckpt_journal.proofs.named.last_slash.Given as goal

abbrev pub invariant-loop-at : goal.invariant-loop-at
invariant-loop-at l = record {
  rest : last_slash_from l.at l.found (drop l.at l.bytes) ≡ last_slash_from 0 None l.bytes;
  within : IfSome l.found (λ found. found < l.at);
}
