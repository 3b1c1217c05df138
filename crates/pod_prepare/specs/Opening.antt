-- How a kubelet is opened at its first command, and opened again.
use Rattle.std.specs.Prelude.{ℕ, ◌≡◌, Bool, true, false, List, [], ◌∷◌, Option, None, Some, Ok, Err, IfSome}
use Rattle.dra_ports.specs.DiskContent.{Content}
use Rattle.ckpt_journal.specs.Layout.{layout_of}
use Rattle.ckpt_journal.specs.Opened.{HasNone, half_opened}
use Rattle.ckpt_journal.specs.Reading.{records}
use Rattle.ckpt_journal.specs.Standing.{HasHalves}
use Rattle.ckpt_journal.specs.Table.{tabled}
use Rattle.ckpt_journal.specs.declared.layout.Layout.{Layout}
use Rattle.ckpt_journal.specs.declared.record.Row.{Row}

-- the size of a half of a checkpoint that is made, or moved over if its table has room in it
abbrev pub half_size : ℕ
half_size = 4194304

-- a kubelet that is open: the size of a half of its checkpoint, and its table
pub record Table : Type 0 where
  pub half : ℕ
  pub rows : List Row

-- bytes that are a journal, with their table
pub record IsFound (bytes : List ℕ) (t : Table) : Type 0 where
  pub layout : Layout
  pub laid : layout_of bytes ≡ Ok layout
  pub table : tabled (records bytes) ≡ Ok t.rows
  pub half : t.half ≡ half_opened half_size t.rows layout

-- a disk of length 0 is formatted, and has no claim; another's bytes are a journal
abbrev pub IsFoundIn : List ℕ → Table → Type 0
IsFoundIn [] t = t ≡ record { half = half_size; rows = [] }
IsFoundIn (b ∷ bytes) t = IsFound (b ∷ bytes) t

-- what a kubelet begins with whose disk exposes its content, or doesn't
abbrev pub BeginsWith : Option Content → Table → Type 0
BeginsWith None t = Unit {0}
BeginsWith (Some c) t = IsFoundIn c.bytes t

-- what a kubelet has that is opened at its first command, if it wasn't before
abbrev pub HasOpened : Option Table → Option Content → Table → Type 0
HasOpened None found t = BeginsWith found t
HasOpened (Some had) found t = t ≡ had

-- a disk of length 0 is made a journal without claims, and any other stays as it is
pub record IsNew (c : Content) : Type 0 where
  pub halves : HasHalves half_size c
  pub none : HasNone c

abbrev pub IsFormattedTo : List ℕ → Content → Option Content → Type 0
IsFormattedTo [] old new = IfSome new IsNew
IsFormattedTo (b ∷ bytes) old new = new ≡ Some old

abbrev pub IsFormatted : Option Content → Option Content → Type 0
IsFormatted None new = Unit {0}
IsFormatted (Some c) new = IsFormattedTo c.bytes c new

-- it is opened again: what it has stays, if the disk exposes its content
abbrev pub HasReopened : Bool → Table → Table → Type 0
HasReopened false old new = Unit {0}
HasReopened true old new = new ≡ old

-- these bytes aren't empty, and aren't a journal from this offset on
abbrev pub IsNoJournal : ℕ → List ℕ → Type 0
IsNoJournal at [] = ⊥
IsNoJournal at (b ∷ bytes) = records (b ∷ bytes) ≡ Err at

-- what a kubelet comes to that is opened again after it was opened at its first command, if it wasn't before
pub record Reopens (told : Bool) (old : Option Table) (found : Option Content) (new : Table) : Type 0 where
  pub start : Table
  pub opened : HasOpened old found start
  pub again : HasReopened told start new

-- a kubelet that isn't open found bytes on its disk that are no journal, if the disk exposes its content; one that is open
-- has a journal
abbrev pub IsRefusedDisk : ℕ → Option Table → Option Content → Type 0
IsRefusedDisk at old None = Unit {0}
IsRefusedDisk at None (Some c) = IsNoJournal at c.bytes
IsRefusedDisk at (Some had) (Some c) = ⊥
