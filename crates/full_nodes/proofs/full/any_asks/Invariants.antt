use Rattle.std.proofs.Common.{◌≡◌, drop}
use Rattle.std.specs.List.{list_any}
use Rattle.full_nodes.specs.Full.{has_any}
use Rattle.full_nodes.proofs.full.any_asks.Given as goal

abbrev pub invariant-loop-wanted : goal.invariant-loop-wanted
invariant-loop-wanted l = list_any (λ c. has_any c.requests) (drop l.wanted-index l.claims) ≡ list_any (λ c. has_any c.requests) l.claims
