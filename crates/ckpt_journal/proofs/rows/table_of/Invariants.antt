use Rattle.std.proofs.Common.{◌≡◌, drop}
use Rattle.ckpt_journal.specs.Table.{table, table_from}
use Rattle.ckpt_journal.proofs.rows.table_of.Given as goal

abbrev pub invariant-loop-item : goal.invariant-loop-item
invariant-loop-item l = table_from l.rows.items (drop l.item-index l.records) ≡ table l.records
