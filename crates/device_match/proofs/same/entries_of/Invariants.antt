use Rattle.std.proofs.Common.{◌≡◌, ◌++◌}
use Rattle.device_match.proofs.same.entries_of.Given as goal

abbrev pub invariant-loop-name : goal.invariant-loop-name
invariant-loop-name g l = l.entries ++ l.name-iterator ≡ l.table
