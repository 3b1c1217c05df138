use Rattle.std.proofs.Common.{◌≡◌, ◌+◌, ◌≤◌, drop}
use Rattle.http_wire.specs.Heads.{line_count}
use Rattle.http_wire.proofs.read.count_lines.Given as goal

abbrev pub invariant-loop-byte : goal.invariant-loop-byte
invariant-loop-byte l = record {
  bound : l.count ≤ l.byte-index;
  count : l.count + line_count (drop l.byte-index l.bytes) ≡ line_count l.bytes;
}
