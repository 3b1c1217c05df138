use Rattle.std.proofs.Common.{◌≡◌, map, take}
use Rattle.cluster.specs.Leaving.{leaving}
use Rattle.cluster.proofs.freed.prepare_each.Given as goal

abbrev pub invariant-loop-claim : goal.invariant-loop-claim
invariant-loop-claim l = record {
  made : l.claims_left.items ≡ map (leaving l.fn.index l.fn.pod l.fn.claims l.fn.named.key.namespace) (take l.claim-index l.claim-items);
  all : l.claim-items ≡ l.fn.named.claims;
}
