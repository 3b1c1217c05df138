-- Which table a disk has, and what a crash leaves of it.
use Rattle.std.specs.Prelude.{◌≡◌, ◌≢◌, ◌⊎◌, ℕ, ◌<◌, ◌+◌, get_or, take, drop, List, [], ◌∷◌, ◌++◌, length, Option, Some, None, Result, Ok, Err, IsTrue}
use Rattle.std.specs.List.{AllByRecursion}
use Rattle.dra_ports.specs.DiskContent.{Content, exactly}
use Rattle.dra_ports.specs.DiskImages.{Leaves}
use Rattle.ckpt_journal.specs.Format.{Fits, block, blocks}
use Rattle.ckpt_journal.specs.Layout.{is_half, layout_of, start_of}
use Rattle.ckpt_journal.specs.Reading.{records}
use Rattle.ckpt_journal.specs.Steps.{IsExact}
use Rattle.ckpt_journal.specs.Table.{row_after, table, tabled}
use Rattle.ckpt_journal.specs.declared.error.JournalError.{JournalError}
use Rattle.ckpt_journal.specs.declared.error.JournalError.TheVariants.{Memory, NotAJournal}
use Rattle.ckpt_journal.specs.declared.layout.Halves.{Halves}
use Rattle.ckpt_journal.specs.declared.layout.Layout.TheVariants.{Double}
use Rattle.ckpt_journal.specs.declared.record.Record.{Record}
use Rattle.ckpt_journal.specs.declared.record.Row.{Row}

-- the bytes have these records
abbrev pub Has : List Record → List ℕ → Type 0
Has rs bytes = records bytes ≡ Ok rs

-- the bytes have records that make this table
abbrev pub HasTable : List Row → List ℕ → Type 0
HasTable rows bytes = tabled (records bytes) ≡ Ok rows

-- the table from before, or that with the new record
abbrev pub IsBeforeOrAfter : List Row → Record → List ℕ → Type 0
IsBeforeOrAfter rows item bytes = HasTable rows bytes ⊎ HasTable (row_after rows item) bytes

-- the records of what a read returns, if the disk exposes that
abbrev pub recorded : Option Content → List Record
recorded None = []
recorded (Some c) = elim (records c.bytes) [ Ok rs ↦ rs | Err at ↦ [] ]

-- what a read returns has this table, and so has whatever a crash leaves, if the disk is honest
pub record Keeps (rows : List Row) (c : Content) : Type 0 where
  pub read : HasTable rows c.bytes
  pub images : IsTrue c.honest → Leaves (HasTable rows) c.sure

-- what a read returns is a file of version 2 with halves of this size
pub record HasHalves (half : ℕ) (c : Content) : Type 0 where
  pub halves : Halves
  pub laid : layout_of c.bytes ≡ Ok (Double halves)
  pub size : halves.half ≡ half

-- the live half begins with these records, of which the last gate is closed and has this offset
pub record Settled (rs : List Record) (h : Halves) (end : ℕ) (c : Content) : Type 0 where
  pub laid : layout_of c.bytes ≡ Ok (Double h)
  pub gate : ℕ
  pub tail : List ℕ
  pub shut : gate ≢ 90
  pub behind : drop (start_of h) c.bytes ≡ blocks rs ++ gate ∷ tail
  pub place : end ≡ start_of h + length (blocks rs)
  pub room : length (blocks rs) < h.half
  pub fits : AllByRecursion Fits rs
  pub sure : IsExact c

-- The same of records that make these rows, without what follows them, so that it has one proof at most.
abbrev pub IsSettled : List Record → List Row → Halves → ℕ → Content → Type 0
IsSettled rs rows h end c =
    (layout_of c.bytes ≡ Ok (Double h)) × (end < length c.bytes) × (get_or c.bytes end 90 ≢ 90) × (take (length (blocks rs)) (drop (start_of h) c.bytes) ≡ blocks rs)
    × (end ≡ start_of h + length (blocks rs)) × (length (blocks rs) < h.half) × AllByRecursion Fits rs × (table rs ≡ rows) × (IsTrue c.honest → c.sure ≡ exactly c.bytes)

-- the bytes begin with these records after open gates, and the closed gate after them has this offset
abbrev pub EndsAt : List Record → ℕ → List ℕ → Type 0
EndsAt rs end bytes = (end < length bytes) × (get_or bytes end 90 ≢ 90) × (take end bytes ≡ blocks rs) × (end ≡ length (blocks rs)) × AllByRecursion Fits rs

-- the bytes are these records after open gates, a closed gate, and anything
pub record IsSpelled (rs : List Record) (bytes : List ℕ) : Type 0 where
  pub gate : ℕ
  pub tail : List ℕ
  pub shut : gate ≢ 90
  pub parts : bytes ≡ blocks rs ++ gate ∷ tail
  pub fits : AllByRecursion Fits rs

-- what a call returned is what the bytes mean, unless memory ran out or the disk failed
abbrev pub Returns : {X : Type 0} → (X → List Record) → Result X JournalError → Result (List Record) ℕ → Type 0
Returns records_of (Ok x) read = read ≡ Ok (records_of x)
Returns records_of (Err (NotAJournal at)) read = read ≡ Err at
Returns records_of (Err e) read = Unit {0}

-- an error that reading bytes may return
abbrev pub IsOfBytes : JournalError → Type 0
IsOfBytes (NotAJournal at) = Unit {0}
IsOfBytes Memory = Unit {0}
IsOfBytes e = ⊥
