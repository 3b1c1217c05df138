use Rattle.std.proofs.Common.{◌≡◌, ◌++◌, map}
use Rattle.std.specs.List.{zip}
use Rattle.api_claim.specs.Requests.{kind_of}
use Rattle.api_claim.proofs.joins.join_kinds.Given as goal

-- those so far, and those of the pairs that are left, are all
abbrev pub invariant-loop-asked : goal.invariant-loop-asked
invariant-loop-asked l =
    l.kinds ++ map kind_of (zip l.asked-iterator.a.rest.items l.asked-iterator.b.rest.items) ≡ map kind_of (zip l.fn.asks l.fn.names)
