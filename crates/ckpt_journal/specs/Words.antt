-- What clauses say about a journal.
use Rattle.std.specs.Prelude.{◌≡◌, ℕ, Bool, List}
use Rattle.dra_ports.specs.declared.disk.Disk.{Ghosts}
use Rattle.ckpt_journal.specs.declared.layout.Halves.{Halves}
use Rattle.ckpt_journal.specs.declared.record.Row.{Row}
use Rattle.ckpt_journal.specs.declared.state.Journal.{Journal}

abbrev pub disk_of : {D : Type 0} {ghosts : Ghosts D} → Journal D ghosts → D
disk_of j = j.disk

-- an error of the disk has ended it
abbrev pub has_ended : {D : Type 0} {ghosts : Ghosts D} → Journal D ghosts → Bool
has_ended j = j.ended

-- the table that its records make
abbrev pub rows_of : {D : Type 0} {ghosts : Ghosts D} → Journal D ghosts → List Row
rows_of j = j.rows.items

-- the size of a half
abbrev pub half_of : {D : Type 0} {ghosts : Ghosts D} → Journal D ghosts → ℕ
half_of j = j.halves.half

-- where the halves are, and which of them is live
abbrev pub halves_of : {D : Type 0} {ghosts : Ghosts D} → Journal D ghosts → Halves
halves_of j = j.halves

-- the offset of the closed gate after its last record
abbrev pub place_of : {D : Type 0} {ghosts : Ghosts D} → Journal D ghosts → ℕ
place_of j = j.end

-- a call changed nothing
pub record IsSame {D : Type 0} {ghosts : Ghosts D} (old new : Journal D ghosts) : Type 0 where
  pub disk : disk_of new ≡ disk_of old
  pub rows : rows_of new ≡ rows_of old
  pub halves : halves_of new ≡ halves_of old
  pub place : place_of new ≡ place_of old
  pub ended : has_ended new ≡ has_ended old
