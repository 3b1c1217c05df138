use Rattle.std.proofs.Common.{rules}
use Rattle.api_cluster.specs.declared.types.PodResourceClaim.{PodResourceClaim}
use Rattle.allocations.proofs.Gathered.{gathered_all}
use Rattle.allocations.proofs.keys.keys_of_pod.Goals as goal

pub returns : goal.returns
returns c =
    let p = c.args.pod.now in
    gathered_all (λ (e : PodResourceClaim). record { namespace = p.key.namespace; name = e.claim }) p.claims c.loop-entry.entry-index c.loop-entry.keys (search rules) c.loop-entry.invariant
