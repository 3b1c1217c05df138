-- What a disk in memory holds at each moment, from what it held at first and what changed it.
use Rattle.std.specs.Prelude.{◌≡◌, ℕ, ◌+◌, ◌-◌, min, List, [], ◌∷◌, ◌++◌, length, take, drop, replicate, Option, None}
use Rattle.dra_ports.specs.DiskContent.{Sure, blurred, exactly, shorter, spliced}
use Rattle.mem_disk.specs.declared.change.Change.{Change}
use Rattle.mem_disk.specs.declared.change.Change.TheVariants.{Write, Cut, Sync}

-- what a disk holds at a moment, and what is sure then
pub record Stage : Type 0 where
  pub bytes : List ℕ
  pub sure : Sure

abbrev pub begun : List ℕ → Stage
begun bytes = record { bytes = bytes; sure = exactly bytes }

abbrev pub after_write : ℕ → List ℕ → Stage → Stage
after_write at from s = record { bytes = spliced at from s.bytes; sure = blurred at (length from) s.sure }

abbrev pub after_cut : ℕ → Stage → Stage
after_cut len s = record { bytes = take len s.bytes; sure = shorter len s.sure }

abbrev pub after_sync : Stage → Stage
after_sync s = begun s.bytes

abbrev pub after : Change → Stage → Stage
after (Write at from) s = after_write at from.items s
after (Cut len) s = after_cut len s
after Sync s = after_sync s

-- the stage after these changes, the first of them first
unfoldable pub stage_after : Stage → List Change → Stage
stage_after s [] = s
stage_after s (c ∷ cs) = stage_after (after c s) cs

-- what was sure before each of these changes
unfoldable pub sures_from : Stage → List Change → List Sure
sures_from s [] = []
sures_from s (c ∷ cs) = s.sure ∷ sures_from (after c s) cs

-- what a read returns after a change
abbrev pub changed : Change → List ℕ → List ℕ
changed (Write at from) bytes = spliced at from.items bytes
changed (Cut len) bytes = take len bytes
changed Sync bytes = bytes

-- what a read returns after these changes
unfoldable pub bytes_from : List ℕ → List Change → List ℕ
bytes_from bytes [] = bytes
bytes_from bytes (c ∷ cs) = bytes_from (changed c bytes) cs

-- the change is no sync
abbrev pub IsUnsynced : Change → Type 0
IsUnsynced (Write at from) = Unit {0}
IsUnsynced (Cut len) = Unit {0}
IsUnsynced Sync = ⊥

-- the present stage, and what was sure at each earlier moment, the first of them first
pub record Past : Type 0 where
  pub stage : Stage
  pub earlier : List Sure

-- one moment later
abbrev pub now_of : Stage → Past → Past
now_of s p = record { stage = s; earlier = p.earlier ++ p.stage.sure ∷ [] }

abbrev pub gone_on : Change → Past → Past
gone_on c p = now_of (after c p.stage) p

-- the places, n of them from this one on no longer sure
abbrev pub gapped : ℕ → ℕ → List (Option ℕ) → List (Option ℕ)
gapped at n places = take at places ++ replicate (min (at + n) (length places) - min at (length places)) None ++ drop (at + n) places

-- the other is a prefix of the list
abbrev pub StartsWith : List ℕ → List ℕ → Type 0
StartsWith xs prefix = (rest : List ℕ) × (xs ≡ prefix ++ rest)
