use Rattle.std.proofs.Common.{◌≡◌, ◌++◌, drop}
use Rattle.std.specs.Prelude.{List, option_map}
use Rattle.serde_json.specs.View.{items_view}
use Rattle.commands.specs.declared.given.Given.{Given}
use Rattle.commands.specs.Commands.{each_of, list_item}
use Rattle.commands.proofs.read.apply_each.Given as goal

-- those made and those of the items that are left are all
abbrev pub invariant-loop-value : goal.invariant-loop-value
invariant-loop-value l =
    option_map (λ (all : List Given). l.all ++ all) (each_of list_item (items_view (drop l.value-index l.items))) ≡ each_of list_item (items_view l.items)
