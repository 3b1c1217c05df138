use Rattle.std.proofs.Common.{◌≤◌, ◌-◌, length, min, take}
use Rattle.http_wire.specs.Scan.{IsBehind}
use Rattle.http_wire.proofs.scan.Scan.over.Given as goal

abbrev pub invariant-loop-scan : goal.invariant-loop-scan
invariant-loop-scan l = record {
  within : l.scan.count ≤ min (length l.bytes) 16384;
  behind : IsBehind (take l.scan.count l.bytes) l.scan;
}

abbrev pub decreases-loop-scan : goal.decreases-loop-scan
decreases-loop-scan l = 16384 - l.scan.count
