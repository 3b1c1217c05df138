use Rattle.std.proofs.Common.{◌≡◌, ◌++◌, drop}
use Rattle.std.specs.List.{AllByRecursion}
use Rattle.ckpt_journal.specs.Format.{Fits, blocks}
use Rattle.ckpt_journal.specs.Table.{compact}
use Rattle.ckpt_journal.proofs.spelling.put_rows.Given as goal

abbrev pub invariant-loop-row : goal.invariant-loop-row
invariant-loop-row l = record {
  fits : AllByRecursion Fits (compact (drop l.row-index l.rows));
  put : l.into.items ++ blocks (compact (drop l.row-index l.rows)) ≡ l.fn.into.items ++ blocks (compact l.rows);
}
