use Rattle.std.proofs.Common.{ap, arith}
use Rattle.http_wire.specs.declared.scan.Scan.{Scan}
use Rattle.http_wire.proofs.Scanned.{behind_more}
use Rattle.http_wire.proofs.scan.Scan.over.Goals as goal

pub loop-scan-preserved : goal.loop-scan-preserved
loop-scan-preserved c = record {
  within = omega (arith, c.if-scan-most.true, c.min-most.ensures, ap (λ (s : Scan). s.count) c.after-scan.ensures);
  behind = behind_more c.args.bytes.now c.loop-scan.scan c.after-scan.result (omega (arith, c.if-scan-most.true, c.min-most.ensures)) c.loop-scan.invariant.behind c.loop-scan-test.ensures c.after-scan.ensures;
}
