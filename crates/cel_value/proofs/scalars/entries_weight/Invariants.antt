use Rattle.std.proofs.Common.{◌≡◌, ◌≤◌, ◌+◌, min, sum_by}
use Rattle.cel_value.specs.Values.{entry_weight, most}
use Rattle.cel_value.proofs.scalars.entries_weight.Given as goal

abbrev pub invariant-loop-key : goal.invariant-loop-key
invariant-loop-key l = record {
  within : l.total ≤ most;
  sum : min (l.total + sum_by entry_weight l.key-iterator) most ≡ min (1 + sum_by entry_weight l.entries) most;
}
