use Rattle.std.proofs.Common.{◌≡◌, drop}
use Rattle.serde_json.specs.View.{items_view}
use Rattle.object_fields.specs.Lists.{alone, each, each_from}
use Rattle.api_claim.specs.Constraints.{constraint_at}
use Rattle.api_claim.proofs.constraints.read_each.Given as goal

-- the items that are left, after those read, are all items
abbrev pub invariant-loop-place : goal.invariant-loop-place
invariant-loop-place l =
    each_from (alone (constraint_at l.names)) l.path l.place l.constraints (items_view (drop l.place l.values)) ≡ each (constraint_at l.names) l.path (items_view l.values)
