-- What opening a journal finds and leaves.
use Rattle.std.specs.Prelude.{◌≡◌, ◌⊎◌, ℕ, ◌+◌, ◌-◌, ◌<◌, ◌≤◌, List, [], drop, length, Option, Some, None, Ok, IsTrue}
use Rattle.std.specs.List.{AllByRecursion}
use Rattle.dra_ports.specs.DiskContent.{Content, synced}
use Rattle.dra_ports.specs.DiskImages.{AtEachMoment, Leaves}
use Rattle.ckpt_journal.specs.Format.{Fits, blocks}
use Rattle.ckpt_journal.specs.Layout.{IsSized, layout_of, live, start_of}
use Rattle.ckpt_journal.specs.Plan.{size_for, table_bytes}
use Rattle.ckpt_journal.specs.Reading.{records}
use Rattle.ckpt_journal.specs.Standing.{EndsAt, Has, HasTable}
use Rattle.ckpt_journal.specs.Steps.{IsExact}
use Rattle.ckpt_journal.specs.Table.{IsTable, compact, table}
use Rattle.ckpt_journal.specs.declared.layout.Halves.{Halves}
use Rattle.ckpt_journal.specs.declared.layout.Layout.{Layout}
use Rattle.ckpt_journal.specs.declared.layout.Layout.TheVariants.{Single, Double}
use Rattle.ckpt_journal.specs.declared.record.Record.{Record}
use Rattle.ckpt_journal.specs.declared.record.Row.{Row}

-- a file of no record, whatever a crash leaves of it
pub record HasNone (c : Content) : Type 0 where
  pub read : Has [] c.bytes
  pub images : IsTrue c.honest → Leaves (Has []) c.sure

-- the closed gate is within the live part
abbrev pub IsShort : Layout → ℕ → Type 0
IsShort Single end = 16 + end < 67108864
IsShort (Double h) end = IsSized h × (end < h.half)

-- records that a file has
pub record IsFound (layout : Layout) (rs : List Record) (end : ℕ) : Type 0 where
  pub fits : AllByRecursion Fits rs
  pub place : end ≡ length (blocks rs)
  pub short : IsShort layout end

-- the content has these records, and all of it is sure
pub record IsTold (layout : Layout) (rs : List Record) (end : ℕ) (c : Content) : Type 0 where
  pub laid : layout_of c.bytes ≡ Ok layout
  pub ends : EndsAt rs end (live layout c.bytes)
  pub sure : IsExact c

-- the bytes are a file of version 1 whose records make these rows, with the closed gate before the base
pub record IsOld (rows : List Row) (base : ℕ) (c : Content) : Type 0 where
  pub rs : List Record
  pub laid : layout_of c.bytes ≡ Ok Single
  pub make : table rs ≡ rows
  pub ends : EndsAt rs (base - 17) (drop 16 c.bytes)
  pub sure : IsExact c

-- what a journal keeps whatever its disk tells
pub record IsKept (old : List Row) (h : Halves) (end : ℕ) (rows : List Row) : Type 0 where
  pub kept : rows ≡ old
  pub sized : IsSized h
  pub tabled : IsTable rows
  pub used : start_of h + length (blocks (compact rows)) ≤ end
  pub within : end < start_of h + h.half

abbrev pub IsOpened : List Record → Halves → ℕ → List Row → Type 0
IsOpened rs h end rows = IsKept (table rs) h end rows

-- The size of a half once a file is open: its own in version 2. A file of version 1 gets the least size that is at
-- least the one asked for and at least twice the compacted table's.
abbrev pub half_opened : ℕ → List Row → Layout → ℕ
half_opened asked rows Single = size_for asked (length (table_bytes rows))
half_opened asked rows (Double h) = h.half

-- Nothing was done but a sync that failed; or it succeeded, and at each moment from then on whatever a crash
-- leaves has the table from before.
abbrev pub AfterSync : Option Content → Option Content → Type 0
AfterSync None new = new ≡ None
AfterSync (Some c) new = (new ≡ Some c) ⊎ ((rs : List Record) → records c.bytes ≡ Ok rs → AtEachMoment (HasTable (table rs)) (Some (synced c)) new)
