use Rattle.std.proofs.Common.{◌≡◌, drop}
use Rattle.std.specs.List.{list_all}
use Rattle.node_select.specs.Terms.{expression_holds}
use Rattle.node_select.proofs.selector.expressions_hold.Given as goal

abbrev pub invariant-loop-requirement : goal.invariant-loop-requirement
invariant-loop-requirement l =
    list_all (expression_holds l.labels) (drop l.requirement-index l.requirements) ≡ list_all (expression_holds l.labels) l.requirements
