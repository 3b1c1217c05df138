-- Where a head is in bytes (RFC 9112, sections 2.1 and 2.2): lines that end with LF, where a CR before
-- the LF belongs to the end, up to the first empty one after one that isn't empty.
use Rattle.std.specs.Prelude.{ℕ, ◌≡◌, ◌≤◌, ◌<◌, ◌+◌, ◌==◌, ◌&&◌, ◌||◌, nat_lt, Bool, false, List, [], ◌∷◌, Option, None, Some, option_map, length, take, count_by, if◌then◌else◌}

abbrev pub begins_with_lf : List ℕ → Bool
begins_with_lf [] = false
begins_with_lf (b ∷ bs) = b == 10

-- how long the empty line is that bytes begin with, LF or CR LF; 0 if they begin with none
abbrev pub empty_line : List ℕ → ℕ
empty_line [] = 0
empty_line (b ∷ bs) = if b == 10 then 1 else if b == 13 && begins_with_lf bs then 2 else 0

-- the bytes after the empty lines that they begin with
unfoldable pub behind_empty : List ℕ → List ℕ
behind_empty [] = []
behind_empty (b ∷ bs) = if b == 10 || (b == 13 && begins_with_lf bs) then behind_empty bs else b ∷ bs

-- how many bytes there are up to the end of the first empty line after a line
unfoldable pub through_empty : List ℕ → Option ℕ
through_empty [] = None
through_empty (b ∷ bs) = if b == 10 && nat_lt 0 (empty_line bs) then Some (1 + empty_line bs) else option_map (λ n. 1 + n) (through_empty bs)

-- how many lines end in the bytes
abbrev pub line_count : List ℕ → ℕ
line_count bytes = count_by (λ b. b == 10) bytes

-- the most bytes of a head with the empty lines before it
abbrev pub head_most : ℕ
head_most = 16384

-- the most lines of a head: its first, 64, and the empty one
abbrev pub lines_most : ℕ
lines_most = 66

-- the bytes are a head with the empty lines before it, and these are its lines
pub record IsHead (prefix lines : List ℕ) : Type 0 where
  pub lines_are : behind_empty prefix ≡ lines
  pub ends : through_empty lines ≡ Some (length lines)
  pub within : length prefix ≤ head_most

-- no head ends in the bytes
abbrev pub HasNoHead : List ℕ → Type 0
HasNoHead prefix = through_empty (behind_empty prefix) ≡ None

-- the bytes are empty lines, not too many, and no request is begun
pub record IsBlank (prefix : List ℕ) : Type 0 where
  pub only : behind_empty prefix ≡ []
  pub within : length prefix ≤ head_most

-- a head is begun and doesn't end
pub record IsOpenHead (prefix : List ℕ) : Type 0 where
  pub begun : 0 < length (behind_empty prefix)
  pub open_ : HasNoHead prefix
  pub within : length prefix ≤ head_most

-- no head ends in as many bytes as it may have, and there are more
pub record IsLongHead (prefix : List ℕ) : Type 0 where
  pub longer : head_most < length prefix
  pub open_ : HasNoHead (take head_most prefix)
