use Rattle.std.proofs.Common.{◌≡◌, drop}
use Rattle.serde_json.specs.View.{items_view}
use Rattle.object_fields.specs.Lists.{alone, each, each_from}
use Rattle.object_fields.specs.Selectors.{selector_at}
use Rattle.object_fields.proofs.selectors.read_each.Given as goal

-- the selectors that are left, behind those read, are all selectors
abbrev pub invariant-loop-place : goal.invariant-loop-place
invariant-loop-place l =
    each_from (alone selector_at) l.path l.place l.texts (items_view (drop l.place l.selectors)) ≡ each selector_at l.path (items_view l.selectors)
