use Rattle.std.proofs.Common.{drop}
use Rattle.std.specs.List.{AllByRecursion}
use Rattle.api_print.proofs.ranges.all_in_range.Given as goal

-- if the items that are left are in range, all are
abbrev pub invariant-loop-item : goal.invariant-loop-item
invariant-loop-item g l = AllByRecursion g.T.Ranged.in_range (drop l.item-index l.items) → AllByRecursion g.T.Ranged.in_range l.items
