use Rattle.std.proofs.Common.{◌≡◌, ◌++◌, drop}
use Rattle.full_nodes.specs.Sure.{requests_texts}
use Rattle.full_nodes.proofs.sure.add_claim.Given as goal

abbrev pub invariant-loop-at : goal.invariant-loop-at
invariant-loop-at l = l.selections ++ requests_texts l.classes (drop l.at l.requests) ≡ l.fn.selections ++ requests_texts l.classes l.requests
