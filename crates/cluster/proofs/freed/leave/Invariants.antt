use Rattle.std.proofs.Common.{◌≡◌}
use Rattle.cluster.specs.Leaving.{left}
use Rattle.cluster.proofs.freed.leave.Given as goal

abbrev pub invariant-loop-leaving : goal.invariant-loop-leaving
invariant-loop-leaving l = left l.leaving-iterator.rest.items l.claims ≡ left l.fn.claims_left.items l.fn.claims
