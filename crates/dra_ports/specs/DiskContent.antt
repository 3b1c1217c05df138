-- What a disk holds, what a crash may leave of it, and what its calls do to both.
use Rattle.std.specs.Prelude.{◌≡◌, ◌⊎◌, ℕ, ◌+◌, ◌-◌, min, Bool, true, false, List, [], ◌∷◌, ◌++◌, length, take, drop, map, replicate, Option, Some, None, if◌then◌else◌}

-- What is sure after a crash: `places` has at each offset up to the old end the byte that a crash can't
-- change, or None where it may be any byte. The file may be longer, with any bytes there, or it may not.
pub record Sure : Type 0 where
  pub places : List (Option ℕ)
  pub longer : Bool

pub record Content : Type 0 where
  -- what a read returns
  pub bytes : List ℕ
  -- what is sure now
  pub sure : Sure
  -- what was sure at each earlier moment, the first of them first
  pub earlier : List Sure
  -- whether a sync that returns Ok keeps what was written
  pub honest : Bool

-- the bytes are no fewer than the places, and each place that is sure holds its byte
abbrev pub Agrees : List (Option ℕ) → List ℕ → Type 0
Agrees [] image = Unit {0}
Agrees (place ∷ places) [] = ⊥
Agrees (None ∷ places) (b ∷ image) = Agrees places image
Agrees (Some a ∷ places) (b ∷ image) = (b ≡ a) × Agrees places image

-- a crash may leave these bytes
pub record IsImage (sure : Sure) (image : List ℕ) : Type 0 where
  pub agrees : Agrees sure.places image
  pub end : sure.longer ≡ false → length image ≡ length sure.places

-- just these bytes
abbrev pub exactly : List ℕ → Sure
exactly bytes = record { places = map Some bytes; longer = false }

-- any byte may be in the n places from this one on, as far as there are places, and past them all
abbrev pub blurred : ℕ → ℕ → Sure → Sure
blurred at n sure = record {
  places = take at sure.places ++ replicate (min (at + n) (length sure.places) - min at (length sure.places)) None ++ drop (at + n) sure.places;
  longer = true;
}

-- the places up to this length, and any bytes past them
abbrev pub shorter : ℕ → Sure → Sure
shorter len sure = record { places = take len sure.places; longer = true }

-- these bytes from this offset on, over what is there and past the end
abbrev pub spliced : ℕ → List ℕ → List ℕ → List ℕ
spliced at from bytes = take at bytes ++ from ++ drop (at + length from) bytes

-- one moment later
abbrev pub moved : List ℕ → Sure → Content → Content
moved bytes sure c = record { bytes = bytes; sure = sure; earlier = c.earlier ++ c.sure ∷ []; honest = c.honest }

-- after a write
abbrev pub written : ℕ → List ℕ → Content → Content
written at from c = moved (spliced at from c.bytes) (blurred at (length from) c.sure) c

-- after a cut
abbrev pub shortened : ℕ → Content → Content
shortened len c = moved (take len c.bytes) (shorter len c.sure) c

-- after a sync
abbrev pub synced : Content → Content
synced c = moved c.bytes (if c.honest then exactly c.bytes else c.sure) c

-- after an error in a disk that held this: some of the call was done, and a read returns an image
abbrev pub PartlyMoved : (Sure → Sure) → Option Content → Option Content → Type 0
PartlyMoved change None new = ⊥
PartlyMoved change (Some old) new = (bytes : List ℕ) × (new ≡ Some (moved bytes (change old.sure) old)) × IsImage (change old.sure) bytes

-- after an error: nothing was done, or some of it
abbrev pub Partly : (Sure → Sure) → Option Content → Option Content → Type 0
Partly change old new = (new ≡ old) ⊎ PartlyMoved change old new
