use Rattle.std.proofs.Common.{◌≡◌, drop}
use Rattle.prepare_core.specs.Table.{row_of}
use Rattle.prepare_core.proofs.rows.find_row.Given as goal

abbrev pub invariant-loop-row : goal.invariant-loop-row
invariant-loop-row l = row_of l.uid (drop l.row-index l.rows) ≡ row_of l.uid l.rows
