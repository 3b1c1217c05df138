use Rattle.std.proofs.Common.{◌≡◌, ◌++◌, drop}
use Rattle.request_rows.specs.Rows.{rows_from}
use Rattle.request_rows.proofs.rows.rows_of.Given as goal

abbrev pub invariant-loop-row : goal.invariant-loop-row
invariant-loop-row l = l.rows ++ rows_from l.columns l.tainted l.row (drop l.row l.ways) ≡ rows_from l.columns l.tainted 0 l.ways
