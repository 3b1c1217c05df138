use Rattle.std.proofs.Common.{◌≡◌, ◌≤◌, ◌-◌, length}
use Rattle.std.specs.Io.KnownBytes.{Consumes}
use Rattle.http_wire.specs.Reader.{remaining}
use Rattle.http_wire.proofs.buffer.Buffer.take_body.Given as goal

abbrev pub invariant-pieces : goal.invariant-pieces
invariant-pieces g l = record {
  consumed : Consumes (remaining l.fn.self (g.S.Source.left l.fn.from)) (remaining l.self (g.S.Source.left l.from)) l.body.items;
  short : length l.body.items ≤ l.length;
  sent : g.S.Source.sent l.from ≡ g.S.Source.sent l.fn.from;
  faultless : g.S.Source.faults l.from ≡ g.S.Source.faults l.fn.from;
}

abbrev pub decreases-pieces : goal.decreases-pieces
decreases-pieces g l = l.length - length l.body.items
