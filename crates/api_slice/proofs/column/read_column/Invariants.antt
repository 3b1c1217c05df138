use Rattle.std.proofs.Common.{◌≡◌, drop}
use Rattle.serde_json.specs.View.{items_view}
use Rattle.object_fields.specs.Lists.{alone, each, each_from}
use Rattle.api_slice.proofs.column.read_column.Given as goal

-- the devices that are left, behind those read, are all devices
abbrev pub invariant-loop-place : goal.invariant-loop-place
invariant-loop-place g l =
    each_from (alone (g.T.ReadRow.reading l.driver l.per_device)) l.path l.place l.column (items_view (drop l.place l.values)) ≡ each (g.T.ReadRow.reading l.driver l.per_device) l.path (items_view l.values)
