use Rattle.std.proofs.Common.{◌≡◌, drop}
use Rattle.serde_json.specs.View.{items_view}
use Rattle.object_fields.specs.Lists.{alone, each, each_from}
use Rattle.object_fields.proofs.items.read_items.Given as goal

-- the items that are left, behind those read, are all items
abbrev pub invariant-loop-place : goal.invariant-loop-place
invariant-loop-place g l =
    each_from (alone g.T.ReadItem.reading) l.path l.place l.read (items_view (drop l.place l.items)) ≡ each g.T.ReadItem.reading l.path (items_view l.items)
