use Rattle.std.proofs.Common.{◌≡◌, ◌++◌, map, take}
use Rattle.cluster.specs.Prepared.{joined_use}
use Rattle.cluster.proofs.reserved.prepare_joins.Given as goal

abbrev pub invariant-loop-claim : goal.invariant-loop-claim
invariant-loop-claim l = record {
  made : l.uses.items ≡ l.fn.uses.items ++ map (joined_use l.fn.pod l.fn.claims) (take l.claim-index l.claim-items);
  all : l.claim-items ≡ l.fn.plan.joins;
}
