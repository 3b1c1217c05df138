-- What is written to add a record, and to move an old file over.
use Rattle.std.specs.Prelude.{◌≡◌, ℕ, ◌+◌, ◌*◌, ◌-◌, ◌<◌, nat_le, nat_lt, Bool, ◌&&◌, ◌||◌, List, [], ◌∷◌, ◌++◌, length, replicate, Option, Some, None, if◌then◌else◌}
use Rattle.std.specs.Int.{w32, to_be_bytes}
use Rattle.ckpt_journal.specs.Format.{block, blocks, is_long}
use Rattle.ckpt_journal.specs.Layout.{half_sizes, magic, other_half, selector_of, start_of}
use Rattle.ckpt_journal.specs.Steps.{Step, Cut, Put}
use Rattle.ckpt_journal.specs.Table.{compact}
use Rattle.ckpt_journal.specs.declared.layout.Halves.{Halves}
use Rattle.ckpt_journal.specs.declared.record.Record.{Record}
use Rattle.ckpt_journal.specs.declared.record.Row.{Row}

-- the compacted table: its records after open gates, and a closed gate
abbrev pub table_bytes : List Row → List ℕ
table_bytes rows = blocks (compact rows) ++ 0 ∷ []

-- a text or a count of the record is over 65,535, or the compacted table and the record don't fit a half
abbrev pub is_full : ℕ → List Row → Record → Bool
is_full half rows r = is_long r || nat_lt half (length (blocks (compact rows)) + length (block r) + 2)

-- a record and the next gate after the closed gate at this offset, and then that gate opened
abbrev pub append_steps : ℕ → List ℕ → List Step
append_steps gate record_bytes = Put (gate + 1) record_bytes ∷ Put gate (90 ∷ []) ∷ []

-- the table into the other half, and then that half made live
abbrev pub switch_steps : Halves → List ℕ → List Step
switch_steps h table = Put (start_of (other_half h)) table ∷ Put (h.base + 4) (selector_of (other_half h) ∷ []) ∷ []

-- the bytes of a new file: the header, the base 16, the size of a half, the selector, the first half, and the first
-- gate of the second
abbrev pub new_file : ℕ → List ℕ
new_file half = magic ++ 2 ∷ (to_be_bytes w32 16 ++ (to_be_bytes w32 half ++ 0 ∷ replicate (half + 1) 0))

-- the size of a half, the selector, the first half with this table, and the first gate of the second half
abbrev pub new_halves : ℕ → List ℕ → List ℕ
new_halves half table = to_be_bytes w32 half ++ 0 ∷ (table ++ replicate (half + 1 - length table) 0)

-- the least size that is at least the one asked for and at least twice the table's
abbrev pub size_from : List ℕ → ℕ → ℕ → ℕ
size_from [] asked len = 134217728
size_from (size ∷ sizes) asked len = if nat_le asked size && nat_le (2 * len) size then size else size_from sizes asked len

abbrev pub size_for : ℕ → ℕ → ℕ
size_for asked len = size_from half_sizes asked len

-- an old file is cut after its closed gate, at the new base; the halves are written from there on, then the base,
-- and then the version
abbrev pub move_steps : ℕ → List ℕ → List Step
move_steps base halves = Cut base ∷ Put base halves ∷ Put 12 (to_be_bytes w32 base) ∷ Put 11 (2 ∷ []) ∷ []
