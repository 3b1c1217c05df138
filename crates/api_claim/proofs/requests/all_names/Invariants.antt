use Rattle.std.proofs.Common.{◌≡◌, ◌++◌, drop}
use Rattle.api_claim.specs.Requests.{all_names}
use Rattle.api_claim.proofs.requests.all_names.Given as goal

-- the names so far, and those of the requests that are left, are all names
abbrev pub invariant-loop-request : goal.invariant-loop-request
invariant-loop-request l =
    l.names ++ all_names (drop l.request-index l.requests) ≡ all_names l.requests
