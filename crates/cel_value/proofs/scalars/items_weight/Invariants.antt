use Rattle.std.proofs.Common.{◌≡◌, ◌≤◌, ◌+◌, min, sum_by, drop}
use Rattle.cel_value.specs.Values.{single_weight, most}
use Rattle.cel_value.proofs.scalars.items_weight.Given as goal

abbrev pub invariant-loop-item : goal.invariant-loop-item
invariant-loop-item l = record {
  within : l.total ≤ most;
  sum : min (l.total + sum_by single_weight (drop l.item-index l.items)) most ≡ min (1 + sum_by single_weight l.items) most;
}
