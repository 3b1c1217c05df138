use Rattle.std.proofs.Common.{◌≡◌, ◌++◌, drop}
use Rattle.cluster.specs.Claims.{known_claims}
use Rattle.pod_decision.proofs.claims.known_claims.Given as goal

abbrev pub invariant-loop-claim : goal.invariant-loop-claim
invariant-loop-claim l = l.known ++ known_claims l.state (drop l.claim-index l.claims) ≡ known_claims l.state l.claims
