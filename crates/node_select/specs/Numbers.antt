-- Whole numbers in labels.
use Rattle.std.specs.Prelude.{ℕ, ◌==◌, ◌^◌, nat_lt, nat_le, ◌&&◌, ℤ, pos, neg_ℤ, List, [], ◌∷◌, length, Option, Some, None, option_and_then, if◌then◌else◌}
use Rattle.std.specs.Str.{all_ascii_digits}
use Rattle.std.specs.Str.Parse.{digits_value}

-- the number that one or more decimal digits represent
abbrev pub number_of : List ℕ → Option ℕ
number_of ds = if nat_lt 0 (length ds) && all_ascii_digits ds then Some (digits_value 10 ds) else None

abbrev pub positive : ℕ → Option ℤ
positive n = if nat_lt n (2 ^ 63) then Some (pos n) else None

abbrev pub negative : ℕ → Option ℤ
negative n = if nat_le n (2 ^ 63) then Some (neg_ℤ (pos n)) else None

-- the whole number from -2^63 to 2^63-1 that a text represents: digits, which may have a sign and
-- leading zeros
abbrev pub whole_of : List ℕ → Option ℤ
whole_of [] = None
whole_of (b ∷ bs) =
    if b == 45 then option_and_then negative (number_of bs) else (if b == 43 then option_and_then positive (number_of bs) else option_and_then positive (number_of (b ∷ bs)))
