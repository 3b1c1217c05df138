use Rattle.std.proofs.Common.{◌≡◌, ◌++◌, map, take}
use Rattle.cluster.specs.Prepared.{granted_use}
use Rattle.cluster.proofs.reserved.prepare_grants.Given as goal

abbrev pub invariant-loop-grant : goal.invariant-loop-grant
invariant-loop-grant l = record {
  made : l.uses.items ≡ l.fn.uses.items ++ map (granted_use l.fn.plan.node l.fn.pod l.fn.claims) (take l.grant-index l.grant-items);
  all : l.grant-items ≡ l.fn.plan.grants;
}
