use Rattle.std.proofs.Common.{◌≡◌}
use Rattle.cluster.specs.Prepared.{placed}
use Rattle.cluster.proofs.reserved.place.Given as goal

abbrev pub invariant-loop-prepared : goal.invariant-loop-prepared
invariant-loop-prepared l = placed l.prepared-iterator.rest.items l.claims ≡ placed l.fn.uses.items l.fn.claims
