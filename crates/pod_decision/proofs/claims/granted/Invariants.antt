use Rattle.std.proofs.Common.{◌≡◌, ◌++◌, drop}
use Rattle.std.specs.List.{filter}
use Rattle.pool_view.specs.Names.{at_key}
use Rattle.allocations.specs.Claims.{has_grant}
use Rattle.pod_decision.proofs.claims.granted.Given as goal

abbrev pub invariant-loop-claim : goal.invariant-loop-claim
invariant-loop-claim l = l.granted ++ filter (λ k. has_grant (at_key l.state.claims k)) (drop l.claim-index l.claims) ≡ filter (λ k. has_grant (at_key l.state.claims k)) l.claims
