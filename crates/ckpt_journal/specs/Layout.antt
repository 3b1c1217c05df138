-- Where the records of a file are. All numbers are big endian.
use Rattle.std.specs.Prelude.{◌≡◌, ℕ, ◌+◌, ◌<◌, ◌≤◌, ◌^◌, nat_eq, nat_lt, ◌==◌, Bool, true, false, List, [], ◌∷◌, length, take, drop, get_or, Option, Some, None, Result, Ok, Err, if◌then◌else◌}
use Rattle.std.specs.Int.{w32, from_be_bytes}
use Rattle.std.specs.List.{list_any}
use Rattle.ckpt_journal.specs.declared.layout.Halves.{Halves}
use Rattle.ckpt_journal.specs.declared.layout.Layout.{Layout}
use Rattle.ckpt_journal.specs.declared.layout.Layout.TheVariants.{Single, Double}

-- the text DRAKCKPT and 00 00 00
unfoldable pub magic : List ℕ
magic = 68 ∷ 82 ∷ 65 ∷ 75 ∷ 67 ∷ 75 ∷ 80 ∷ 84 ∷ 0 ∷ 0 ∷ 0 ∷ []

-- the sizes that a half may have, the powers of two from 2^12 to 2^27
abbrev pub half_sizes : List ℕ
half_sizes = 4096 ∷ 8192 ∷ 16384 ∷ 32768 ∷ 65536 ∷ 131072 ∷ 262144 ∷ 524288 ∷ 1048576 ∷ 2097152 ∷ 4194304 ∷ 8388608 ∷ 16777216 ∷ 33554432 ∷ 67108864 ∷ 134217728 ∷ []

unfoldable pub is_half : ℕ → Bool
is_half half = list_any (λ size. nat_eq size half) half_sizes

-- the number of 32 bits at an offset
unfoldable pub number_at : ℕ → List ℕ → ℕ
number_at at bytes = from_be_bytes w32 (take 4 (drop at bytes))

-- the first offset at which bytes aren't as they should be, or are missing
abbrev pub differs_at : ℕ → List ℕ → List ℕ → Option ℕ
differs_at at [] bytes = None
differs_at at (m ∷ ms) [] = Some at
differs_at at (m ∷ ms) (b ∷ bs) = if b == m then differs_at (at + 1) ms bs else Some at

-- the halves of this size from this base on, the second of them live where the selector is 5a
abbrev pub halves_at : ℕ → ℕ → ℕ → Halves
halves_at base half selector = record { base = base; half = half; second = selector == 90 }

abbrev pub with_half : ℕ → ℕ → List ℕ → Result Layout ℕ
with_half base half bytes =
    if is_half half then (if nat_lt (length bytes) (base + half + 6) then Err (length bytes) else Ok (Double (halves_at base half (get_or bytes (base + 4) 0)))) else Err base

abbrev pub with_base : ℕ → List ℕ → Result Layout ℕ
with_base base bytes = if nat_lt base 16 then Err 12 else if nat_lt (length bytes) (base + 4) then Err (length bytes) else with_half base (number_at base bytes) bytes

abbrev pub with_header : List ℕ → Result Layout ℕ
with_header bytes = if nat_lt (length bytes) 16 then Err (length bytes) else if get_or bytes 11 0 == 2 then with_base (number_at 12 bytes) bytes else Ok Single

abbrev pub with_magic : Option ℕ → List ℕ → Result Layout ℕ
with_magic (Some at) bytes = Err at
with_magic None bytes = with_header bytes

-- how the bytes are laid out, or the offset at which they are no journal
unfoldable pub layout_of : List ℕ → Result Layout ℕ
layout_of bytes = with_magic (differs_at 0 magic bytes) bytes

-- the offset of the first gate of a half
abbrev pub start_of : Halves → ℕ
start_of h = h.base + 5 + (if h.second then h.half else 0)

-- the same halves with the other one live
abbrev pub other_half : Halves → Halves
other_half h = record { base = h.base; half = h.half; second = if h.second then false else true }

-- the byte that makes its half the live one
abbrev pub selector_of : Halves → ℕ
selector_of h = if h.second then 90 else 0

-- numbers that a file may have
pub record IsSized (h : Halves) : Type 0 where
  pub base : 16 ≤ h.base
  pub small : h.base < 2 ^ 32
  pub half : is_half h.half ≡ true
  pub most : h.half ≤ 134217728

-- the offset of the first gate
abbrev pub start : Layout → ℕ
start Single = 16
start (Double h) = start_of h

-- the bytes for records, from the first gate on
abbrev pub live : Layout → List ℕ → List ℕ
live Single bytes = drop 16 bytes
live (Double h) bytes = take h.half (drop (start_of h) bytes)

-- the halves are within the bytes
pub record IsWithin (h : Halves) (bytes : List ℕ) : Type 0 where
  pub sized : IsSized h
  pub long : h.base + h.half + 6 ≤ length bytes
