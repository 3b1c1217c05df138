use Rattle.std.proofs.Common.{◌≡◌, ◌++◌, drop}
use Rattle.request_rows.specs.Columns.{yes_from}
use Rattle.request_rows.proofs.rows.matching_in.Given as goal

abbrev pub invariant-loop-position : goal.invariant-loop-position
invariant-loop-position l = l.matching ++ yes_from l.position l.row (drop l.position l.columns) ≡ yes_from 0 l.row l.columns
