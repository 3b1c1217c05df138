-- What a crash leaves of a table to which a call adds records.
use Rattle.std.specs.Prelude.{◌≡◌, ℕ, ◌≤◌, IsTrue, List, length, take, Some}
use Rattle.dra_ports.specs.DiskContent.{Content}
use Rattle.dra_ports.specs.DiskImages.{Leaves}
use Rattle.ckpt_journal.specs.Standing.{HasTable}
use Rattle.ckpt_journal.specs.Table.{table_from}
use Rattle.ckpt_journal.specs.declared.record.Record.{Record}
use Rattle.ckpt_journal.specs.declared.record.Row.{Row}
use Rattle.prepare_core.specs.Table.{row_of}

-- the bytes have the table from before and some of the call's own records, none of them skipped
pub record HasPrefix (rows : List Row) (own : List Record) (bytes : List ℕ) : Type 0 where
  pub count : ℕ
  pub some : count ≤ length own
  pub table : HasTable (table_from rows (take count own)) bytes

-- the table of the bytes has this row
pub record HasRow (r : Row) (bytes : List ℕ) : Type 0 where
  pub rows : List Row
  pub table : HasTable rows bytes
  pub row : row_of r.claim.uid rows ≡ Some r

-- whatever a crash leaves has this row, if the disk is honest
abbrev pub HasStable : Row → Content → Type 0
HasStable r c = IsTrue c.honest → Leaves (HasRow r) c.sure

-- a table to which some of the call's own records were added, none of them skipped
pub record HasAdded (rows : List Row) (own : List Record) (now : List Row) : Type 0 where
  pub count : ℕ
  pub some : count ≤ length own
  pub table : now ≡ table_from rows (take count own)
