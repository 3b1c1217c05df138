use Rattle.std.proofs.Common.{◌≡◌, ◌≤◌, ◌-◌, length, take}
use Rattle.http_wire.specs.Scan.{IsBehind}
use Rattle.http_wire.specs.Steps.{Kept}
use Rattle.http_wire.proofs.buffer.Buffer.find_head.Given as goal

abbrev pub invariant-pieces : goal.invariant-pieces
invariant-pieces g l = record {
  kept : Kept l.fn.self l.self (g.S.Source.left l.fn.from) (g.S.Source.left l.from);
  within : l.scan.count ≤ length l.self;
  few : l.scan.count ≤ 16384;
  behind : IsBehind (take l.scan.count l.self) l.scan;
  sent : g.S.Source.sent l.from ≡ g.S.Source.sent l.fn.from;
  faultless : g.S.Source.faults l.from ≡ g.S.Source.faults l.fn.from;
}

abbrev pub decreases-pieces : goal.decreases-pieces
decreases-pieces g l = 16385 - length l.self
