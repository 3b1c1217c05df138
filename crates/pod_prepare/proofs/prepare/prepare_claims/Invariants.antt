use Rattle.std.proofs.Common.{◌≡◌, false, drop}
use Rattle.prepare_core.specs.Words.{disk_in, half_in, has_ended, node_in, rows_in}
use Rattle.pod_prepare.specs.Commands.{asked_of, prepare_turn}
use Rattle.pod_prepare.specs.Going.{IsSoFar}
use Rattle.pod_prepare.specs.Words.{TellsStill}
use Rattle.pod_prepare.proofs.prepare.prepare_claims.Given as goal

-- what was done so far, and the claims that are left
abbrev pub invariant-loop-claim : goal.invariant-loop-claim
invariant-loop-claim g l = record {
  going : has_ended l.kubelet ≡ false;
  half : half_in l.kubelet ≡ half_in l.fn.kubelet;
  node : node_in l.kubelet ≡ node_in l.fn.kubelet;
  tells : TellsStill (g.D.Disk.content (disk_in l.fn.kubelet)) (g.D.Disk.content (disk_in l.kubelet));
  faults : g.D.Disk.faults (disk_in l.kubelet) ≡ g.D.Disk.faults (disk_in l.fn.kubelet);
  far : IsSoFar (prepare_turn (asked_of (half_in l.fn.kubelet) (node_in l.fn.kubelet) l.state l.job) l.pod) l.claims (drop l.claim-index l.claims) (rows_in l.fn.kubelet) (rows_in l.kubelet) l.out.items (g.V.Driver.calls l.fn.driver) (g.V.Driver.calls l.driver) (g.V.Driver.faults l.fn.driver) (g.V.Driver.faults l.driver);
}
