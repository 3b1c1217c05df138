use Rattle.std.proofs.Common.{◌≡◌, drop}
use Rattle.serde_json.specs.View.{items_view}
use Rattle.object_fields.specs.Lists.{each_beside, each_from}
use Rattle.api_claim.specs.Requests.{subrequest_name_at}
use Rattle.api_claim.proofs.requests.read_each_name.Given as goal

-- the names that are left, after those read, are all names
abbrev pub invariant-loop-place : goal.invariant-loop-place
invariant-loop-place l =
    each_from subrequest_name_at l.path l.place l.names (items_view (drop l.place l.subrequests)) ≡ each_beside subrequest_name_at l.path (items_view l.subrequests)
