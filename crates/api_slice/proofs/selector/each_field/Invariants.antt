use Rattle.std.proofs.Common.{◌≡◌, drop}
use Rattle.serde_json.specs.View.{items_view}
use Rattle.object_fields.specs.Lists.{alone, each, each_from}
use Rattle.api_slice.specs.Selectors.{field_of}
use Rattle.api_slice.proofs.selector.each_field.Given as goal

-- the items that are left, after those read, are all
abbrev pub invariant-loop-place : goal.invariant-loop-place
invariant-loop-place l =
    each_from (alone field_of) l.path l.place l.requirements (items_view (drop l.place l.values)) ≡ each field_of l.path (items_view l.values)
