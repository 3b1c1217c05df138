use Rattle.std.proofs.Common.{◌≡◌, drop}
use Rattle.std.specs.List.{list_all}
use Rattle.node_select.specs.Terms.{field_holds}
use Rattle.node_select.proofs.selector.fields_hold.Given as goal

abbrev pub invariant-loop-requirement : goal.invariant-loop-requirement
invariant-loop-requirement l =
    list_all (field_holds l.name) (drop l.requirement-index l.requirements) ≡ list_all (field_holds l.name) l.requirements
