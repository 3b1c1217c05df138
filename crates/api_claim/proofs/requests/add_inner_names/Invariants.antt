use Rattle.std.proofs.Common.{◌≡◌, ◌++◌, drop, map}
use Rattle.api_claim.specs.Requests.{joined_name}
use Rattle.api_claim.proofs.requests.add_inner_names.Given as goal

-- the names so far, and those of the subrequests that are left, are all names
abbrev pub invariant-loop-subrequest : goal.invariant-loop-subrequest
invariant-loop-subrequest l =
    l.names ++ map (joined_name l.request) (drop l.subrequest-index l.subrequests) ≡ l.initial.names ++ map (joined_name l.request) l.subrequests
