-- A document that has begun, and its end.
use Rattle.std.specs.Prelude.{ℕ, ◌≡◌, ◌≤◌, ◌<◌, ◌+◌, ◌-◌, min, List, [], ◌∷◌, ◌++◌, Option, Some, Result, Ok, Err, length, take, drop}
use Rattle.std.specs.Io.KnownBytes.{Consumes}
use Rattle.dra_ports.specs.Prefixes.{ConsumesPrefix}
use Rattle.doc_split.specs.declared.doc.Doc.{Doc}
use Rattle.doc_split.specs.declared.error.DocError.{DocError}
use Rattle.doc_split.specs.declared.error.DocError.TheVariants as error
use Rattle.doc_split.specs.declared.limits.Limits.{Limits}
use Rattle.doc_split.specs.declared.place.Place.TheVariants.{Outside}
use Rattle.doc_split.specs.declared.scan.Scan.{Scan}
use Rattle.doc_split.specs.Documents.{balanced_after, count_outside, document_length}
use Rattle.doc_split.specs.Scan.{place_behind, piece_length, scan_behind}
use Rattle.doc_split.specs.Split.{Split, remaining}
use Rattle.doc_split.specs.Passing.{MeetsEnd, MeetsLimit}

-- what was consumed is this prefix of a document
pub record Taken (limits : Limits) (old new : Split) (left left_now : Option (List ℕ)) (bytes : List ℕ) : Type 0 where
  pub consumed : Consumes (remaining old left) (remaining new left_now) bytes
  pub tail : List ℕ
  pub begins : bytes ≡ 123 ∷ tail
  pub counted : new.at ≡ old.at + length bytes
  pub within : length bytes ≤ limits.input - old.at
  pub small : length bytes ≤ limits.document

-- no prefix of a document's bytes is balanced, whatever follows them
abbrev pub StaysOpen : List ℕ → Type 0
StaysOpen bytes = (more : List ℕ) → document_length (bytes ++ more) ≡ balanced_after bytes more

-- these are all of its bytes, whatever follows them
abbrev pub IsClosed : List ℕ → Type 0
IsClosed bytes = (more : List ℕ) → document_length (bytes ++ more) ≡ Some (length bytes)

-- a document that isn't closed
pub record IsOpen (limits : Limits) (old new : Split) (left left_now : Option (List ℕ)) : Type 0 where
  pub bytes : List ℕ
  pub taken : Taken limits old new left left_now bytes
  pub open_ : StaysOpen bytes

-- a document that has reached its limit, and goes on
pub record MeetsMost (limits : Limits) (old new : Split) : Type 0 where
  pub next : 0 < length new.ahead
  pub room : new.at < limits.input
  pub most : new.at ≡ old.at + limits.document

pub record IsWhole (limits : Limits) (old new : Split) (left left_now : Option (List ℕ)) (bytes : List ℕ) : Type 0 where
  pub taken : Taken limits old new left left_now bytes
  pub closed : IsClosed bytes

-- how taking a document ends
abbrev pub TakesDocument : Limits → Split → Split → Option (List ℕ) → Option (List ℕ) → Result Doc DocError → Type 0
TakesDocument limits old new left left_now (Ok doc) = IsWhole limits old new left left_now doc.bytes.items × (doc.at ≡ old.at)
TakesDocument limits old new left left_now (Err error.ReadFault) = IsOpen limits old new left left_now × (new.ahead ≡ [])
TakesDocument limits old new left left_now (Err (error.Unclosed at)) = IsOpen limits old new left left_now × (at ≡ old.at) × MeetsEnd new left_now
TakesDocument limits old new left left_now (Err (error.Stray at)) = ⊥
TakesDocument limits old new left left_now (Err (error.TooLong at)) = IsOpen limits old new left left_now × (at ≡ old.at) × MeetsMost limits old new
TakesDocument limits old new left left_now (Err error.Memory) = ConsumesPrefix (remaining old left) (remaining new left_now)
TakesDocument limits old new left left_now (Err error.Input) = IsOpen limits old new left left_now × MeetsLimit limits new

-- the scan is at the end of the prefix: where its next byte is, and how many braces are open
pub record IsBehind (prefix : List ℕ) (scan : Scan) : Type 0 where
  pub place_is : place_behind Outside prefix ≡ scan.place
  pub depth_is : count_outside 123 prefix ≡ count_outside 125 prefix + scan.depth

-- the bytes ahead of which a document may still take some, if it has so many
abbrev pub window : Limits → Split → ℕ → List ℕ
window limits split length_so_far = take (min (limits.input - split.at) (limits.document - length_so_far)) split.ahead

-- A piece of the window was appended to the document's bytes: up to the brace after which none is
-- open, or all.
pub record TakesPiece (limits : Limits) (old new : Split) (bytes bytes_now : List ℕ) (scan scan_now : Scan) : Type 0 where
  pub at_is : new.at ≡ old.at + piece_length scan (window limits old (length bytes))
  pub ahead_is : new.ahead ≡ drop (piece_length scan (window limits old (length bytes))) old.ahead
  pub bytes_are : bytes_now ≡ bytes ++ take (piece_length scan (window limits old (length bytes))) (window limits old (length bytes))
  pub scan_is : scan_now ≡ scan_behind scan (window limits old (length bytes))
  pub deep : scan_now.depth ≤ length bytes_now

-- the document that has begun, so far
pub record Going (limits : Limits) (old new : Split) (left left_now : Option (List ℕ)) (bytes : List ℕ) (scan : Scan) : Type 0 where
  pub taken : Taken limits old new left left_now bytes
  pub open_ : 0 < scan.depth → StaysOpen bytes × IsBehind bytes scan
  pub deep : scan.depth ≤ length bytes
  pub closed : scan.depth ≡ 0 → IsClosed bytes
