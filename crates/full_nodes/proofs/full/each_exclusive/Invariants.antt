use Rattle.std.proofs.Common.{◌≡◌, drop}
use Rattle.std.specs.List.{list_all}
use Rattle.full_nodes.specs.Full.{is_exclusive}
use Rattle.full_nodes.proofs.full.each_exclusive.Given as goal

abbrev pub invariant-loop-wanted : goal.invariant-loop-wanted
invariant-loop-wanted l = list_all (λ c. list_all (λ r. is_exclusive r.kind) c.requests) (drop l.wanted-index l.claims) ≡ list_all (λ c. list_all (λ r. is_exclusive r.kind) c.requests) l.claims
