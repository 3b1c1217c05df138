use Rattle.std.proofs.Common.{◌≡◌, ◌++◌}
use Rattle.dra_values.proofs.table.Table.copy.Given as goal

abbrev pub invariant-loop-key : goal.invariant-loop-key
invariant-loop-key g l = l.fn.self ≡ l.copy ++ l.key-iterator
