use Rattle.std.specs.List.{AllByRecursion}
use Rattle.std.specs.Map.{values_of}
use Rattle.api_print.proofs.ranges.values_in_range.Given as goal

-- if the values that are left are in range, all are
abbrev pub invariant-loop-value : goal.invariant-loop-value
invariant-loop-value g l = AllByRecursion g.V.Ranged.in_range (values_of l.value-iterator) → AllByRecursion g.V.Ranged.in_range (values_of l.table)
