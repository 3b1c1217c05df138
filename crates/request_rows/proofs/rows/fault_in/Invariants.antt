use Rattle.std.proofs.Common.{◌≡◌, drop}
use Rattle.request_rows.specs.Columns.{fault_from}
use Rattle.request_rows.proofs.rows.fault_in.Given as goal

abbrev pub invariant-loop-position : goal.invariant-loop-position
invariant-loop-position l = fault_from l.position l.row (drop l.position l.columns) ≡ fault_from 0 l.row l.columns
