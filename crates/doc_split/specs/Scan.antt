-- How a document's bytes are scanned: where the next byte is, and how many braces are open.
use Rattle.std.specs.Prelude.{ℕ, ◌+◌, ◌-◌, ◌==◌, List, [], ◌∷◌, if◌then◌else◌}
use Rattle.doc_split.specs.declared.place.Place.{Place}
use Rattle.doc_split.specs.declared.place.Place.TheVariants.{Outside, Quoted, Escaped}
use Rattle.doc_split.specs.declared.scan.Scan.{Scan}
use Rattle.doc_split.specs.Documents.{next_place}

-- where the byte after these is
abbrev pub place_behind : Place → List ℕ → Place
place_behind place [] = place
place_behind place (b ∷ bs) = place_behind (next_place place b) bs

abbrev pub depth_after : Place → ℕ → ℕ → ℕ
depth_after Outside depth b = if b == 123 then depth + 1 else if b == 125 then depth - 1 else depth
depth_after Quoted depth b = depth
depth_after Escaped depth b = depth

abbrev pub scan_after : Scan → ℕ → Scan
scan_after s b = record { place = next_place s.place b; depth = depth_after s.place s.depth b }

-- how many bytes there are up to and including the brace after which none is open, or in all
abbrev pub piece_length : Scan → List ℕ → ℕ
piece_length s [] = 0
piece_length s (b ∷ bs) = if (scan_after s b).depth == 0 then 1 else 1 + piece_length (scan_after s b) bs

-- the scan after them
abbrev pub scan_behind : Scan → List ℕ → Scan
scan_behind s [] = s
scan_behind s (b ∷ bs) = if (scan_after s b).depth == 0 then scan_after s b else scan_behind (scan_after s b) bs

-- the scan behind the brace that a document begins with
abbrev pub begun : Scan
begun = record { place = Outside; depth = 1 }
