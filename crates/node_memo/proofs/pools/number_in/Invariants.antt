use Rattle.std.proofs.Common.{◌≡◌, ◌<◌, drop}
use Rattle.node_memo.specs.Dated.{number_from}
use Rattle.node_memo.proofs.pools.number_in.Given as goal

abbrev pub invariant-loop-byte : goal.invariant-loop-byte
invariant-loop-byte l = (l.number < 256) × (number_from l.number (drop l.byte-index l.bytes) ≡ number_from 0 l.bytes)
