use Rattle.std.proofs.Common.{◌≡◌, ◌++◌, map}
use Rattle.std.specs.List.{zip}
use Rattle.api_claim.specs.Requests.{request_of}
use Rattle.api_claim.proofs.joins.join_requests.Given as goal

-- those so far, and those of the pairs that are left, are all
abbrev pub invariant-loop-name : goal.invariant-loop-name
invariant-loop-name l =
    l.requests ++ map request_of (zip l.name-iterator.a.rest.items l.name-iterator.b.rest.items) ≡ map request_of (zip l.fn.names l.fn.kinds)
