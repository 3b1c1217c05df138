use Rattle.std.proofs.Common.{◌≡◌, [], drop, map}
use Rattle.cluster.specs.Claims.{claim_keys}
use Rattle.allocations.proofs.Gathered.{gathered}
use Rattle.allocations.proofs.keys.keys_of_pod.Given as goal

abbrev pub invariant-loop-entry : goal.invariant-loop-entry
invariant-loop-entry l = gathered l.keys (map (λ c. record { namespace = l.pod.key.namespace; name = c.claim }) (drop l.entry-index l.pod.claims)) ≡ gathered [] (claim_keys l.pod)
