use Rattle.std.proofs.Common.{◌≡◌, drop}
use Rattle.serde_json.specs.View.{items_view}
use Rattle.object_fields.specs.Lists.{alone, each, each_from}
use Rattle.api_claim.specs.Requests.{subrequest_names_at}
use Rattle.api_claim.proofs.requests.read_inner_names.Given as goal

-- the items that are left, after those read, are all items
abbrev pub invariant-loop-place : goal.invariant-loop-place
invariant-loop-place l =
    each_from (alone subrequest_names_at) l.path l.place l.names (items_view (drop l.place l.requests)) ≡ each subrequest_names_at l.path (items_view l.requests)
