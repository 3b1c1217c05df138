use Rattle.std.proofs.Common.{◌≡◌, ◌+◌, ◌≤◌, drop}
use Rattle.doc_split.specs.Scan.{piece_length, scan_behind}
use Rattle.doc_split.proofs.scan.scan_piece.Given as goal

abbrev pub invariant-loop-byte : goal.invariant-loop-byte
invariant-loop-byte l = record {
  index : l.count ≡ l.byte-index;
  count : l.count + piece_length l.scan (drop l.byte-index l.bytes) ≡ piece_length l.fn.scan l.bytes;
  behind : scan_behind l.scan (drop l.byte-index l.bytes) ≡ scan_behind l.fn.scan l.bytes;
  bound : l.scan.depth ≤ l.fn.scan.depth + l.count;
}
