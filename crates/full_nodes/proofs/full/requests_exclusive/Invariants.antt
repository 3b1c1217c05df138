use Rattle.std.proofs.Common.{◌≡◌, drop}
use Rattle.std.specs.List.{list_all}
use Rattle.full_nodes.specs.Full.{is_exclusive}
use Rattle.full_nodes.proofs.full.requests_exclusive.Given as goal

abbrev pub invariant-loop-request : goal.invariant-loop-request
invariant-loop-request l = list_all (λ r. is_exclusive r.kind) (drop l.request-index l.requests) ≡ list_all (λ r. is_exclusive r.kind) l.requests
