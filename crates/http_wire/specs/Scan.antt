-- How the bytes of a head are gone over: where the next byte is.
use Rattle.std.specs.Prelude.{ℕ, ◌≡◌, ◌≤◌, ◌<◌, ◌+◌, ◌==◌, List, [], ◌∷◌, ◌++◌, Option, Some, option_map, length, drop, if◌then◌else◌}
use Rattle.http_wire.specs.Heads.{behind_empty, through_empty}
use Rattle.http_wire.specs.declared.scan.Place.{Place}
use Rattle.http_wire.specs.declared.scan.Place.TheVariants.{Before, BeforeReturn, Inside, Start, StartReturn, Done}
use Rattle.http_wire.specs.declared.scan.Scan.{Scan}

abbrev pub at_start : ℕ → Place → Place → Place
at_start b end behind_return = if b == 10 then end else if b == 13 then behind_return else Inside

abbrev pub within : ℕ → Place → Place
within b end = if b == 10 then end else Inside

abbrev pub next_place : Place → ℕ → Place
next_place Before b = at_start b Before BeforeReturn
next_place BeforeReturn b = within b Before
next_place Inside b = within b Start
next_place Start b = at_start b Done StartReturn
next_place StartReturn b = within b Done
next_place Done b = Done

-- how many bytes the empty lines have so far, if this is the place after so many bytes
abbrev pub blank_after : Place → ℕ → ℕ → ℕ
blank_after Before count blank = count
blank_after BeforeReturn count blank = blank
blank_after Inside count blank = blank
blank_after Start count blank = blank
blank_after StartReturn count blank = blank
blank_after Done count blank = blank

abbrev pub scan_after : Scan → ℕ → Scan
scan_after s b = record { place = next_place s.place b; count = s.count + 1; blank = blank_after (next_place s.place b) (s.count + 1) s.blank }

-- nothing was gone over
abbrev pub begins : Scan
begins = record { place = Before; count = 0; blank = 0 }

-- so many bytes further
abbrev pub shift : ℕ → Option ℕ → Option ℕ
shift n end = option_map (λ m. n + m) end

-- Only empty lines were gone over, and then these bytes, which may begin another: whatever follows, it is
-- what follows these bytes.
pub record BehindEmpty (prefix lines pending : List ℕ) : Type 0 where
  pub lines_are : lines ≡ pending
  pub goes_on : (more : List ℕ) → behind_empty (prefix ++ more) ≡ behind_empty (pending ++ more)

-- These lines were gone over after the empty ones, none of them empty, and the last bytes of them may
-- belong to an empty line: whatever follows, it ends where what follows those bytes does.
pub record InLines (prefix lines pending : List ℕ) : Type 0 where
  pub lines_are : (more : List ℕ) → behind_empty (prefix ++ more) ≡ lines ++ more
  pub earlier : List ℕ
  pub parts : lines ≡ earlier ++ pending
  pub some : 0 < length lines
  pub goes_on : (more : List ℕ) → through_empty (lines ++ more) ≡ shift (length earlier) (through_empty (pending ++ more))

-- the lines are whole, whatever follows
pub record BehindLines (prefix lines : List ℕ) : Type 0 where
  pub lines_are : (more : List ℕ) → behind_empty (prefix ++ more) ≡ lines ++ more
  pub ends : (more : List ℕ) → through_empty (lines ++ more) ≡ Some (length lines)

abbrev pub IsBehindAt : Place → List ℕ → List ℕ → Type 0
IsBehindAt Before prefix lines = BehindEmpty prefix lines []
IsBehindAt BeforeReturn prefix lines = BehindEmpty prefix lines (13 ∷ [])
IsBehindAt Inside prefix lines = InLines prefix lines []
IsBehindAt Start prefix lines = InLines prefix lines (10 ∷ [])
IsBehindAt StartReturn prefix lines = InLines prefix lines (10 ∷ 13 ∷ [])
IsBehindAt Done prefix lines = BehindLines prefix lines

-- these bytes were gone over
pub record IsBehind (prefix : List ℕ) (scan : Scan) : Type 0 where
  pub count_is : length prefix ≡ scan.count
  pub blank_within : scan.blank ≤ scan.count
  pub at : IsBehindAt scan.place prefix (drop scan.blank prefix)
