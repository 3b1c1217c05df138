use Rattle.std.proofs.Common.{◌≡◌}
use Rattle.device_match.proofs.same.are_quantities.Given as goal

abbrev pub invariant-loop-name : goal.invariant-loop-name
invariant-loop-name l = l.rest ≡ l.name-iterator → l.entries ≡ l.table
