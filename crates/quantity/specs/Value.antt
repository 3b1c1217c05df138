-- The value of the text of a quantity, in units of 10^-9, or why it has no value.
use Rattle.std.specs.Prelude.{ℕ, ◌+◌, ◌-◌, ◌*◌, ◌/◌, ◌%◌, ◌^◌, ◌<◌, ◌≤◌, ℤ, pos, neg_ℤ, Bool, true, false, ◌&&◌, List, [], ◌∷◌, ◌++◌, length, take, drop, if◌then◌else◌, ◌==◌, nat_lt, nat_le, Result, Ok, Err}
use Rattle.std.specs.List.{prefix_len, list_all}
use Rattle.std.specs.Char.{is_ascii_digit}
use Rattle.quantity.specs.Range.{most}
use Rattle.quantity.specs.declared.error.QuantityError.{QuantityError}
use Rattle.quantity.specs.declared.error.QuantityError.TheVariants.{BadText, TooPrecise, OutOfRange}

-- decimal digits as they are written: the sum of the digits by their positions
abbrev pub digits_value : List ℕ → ℕ
digits_value [] = 0
digits_value (d ∷ ds) = (d - 48) * 10 ^ length ds + digits_value ds

abbrev pub AreDigits : List ℕ → Type 0
AreDigits [] = Unit {0}
AreDigits (d ∷ ds) = (48 ≤ d) × (d < 58) × AreDigits ds

-- ---- how the text is put together

-- whether it begins with a minus, and what follows the sign
abbrev pub sign_of : List ℕ → Bool × List ℕ
sign_of [] = (false, [])
sign_of (c ∷ cs) = if c == 45 then (true, cs) else (if c == 43 then (false, cs) else (false, c ∷ cs))

-- the leading digits, and what follows them
abbrev pub digits_of : List ℕ → List ℕ × List ℕ
digits_of cs = (take (prefix_len is_ascii_digit cs) cs, drop (prefix_len is_ascii_digit cs) cs)

-- the digits behind a point, and what follows them
abbrev pub fraction_of : List ℕ → List ℕ × List ℕ
fraction_of [] = ([], [])
fraction_of (c ∷ cs) = if c == 46 then digits_of cs else ([], c ∷ cs)

-- ---- what a suffix multiplies by, in units of 10^-9

-- n, u, m, k, M, G, T, P, E
abbrev pub decimal_factors : List (ℕ × ℕ)
decimal_factors =
    (110, 10 ^ 0) ∷ (117, 10 ^ 3) ∷ (109, 10 ^ 6) ∷ (107, 10 ^ 12) ∷ (77, 10 ^ 15) ∷ (71, 10 ^ 18) ∷ (84, 10 ^ 21) ∷ (80, 10 ^ 24) ∷ (69, 10 ^ 27) ∷ []

-- K, M, G, T, P, E before an i
abbrev pub binary_factors : List (ℕ × ℕ)
binary_factors =
    (75, 2 ^ 10 * 10 ^ 9) ∷ (77, 2 ^ 20 * 10 ^ 9) ∷ (71, 2 ^ 30 * 10 ^ 9) ∷ (84, 2 ^ 40 * 10 ^ 9) ∷ (80, 2 ^ 50 * 10 ^ 9) ∷ (69, 2 ^ 60 * 10 ^ 9) ∷ []

-- the value of the letter in a table
abbrev pub factor_in : List (ℕ × ℕ) → ℕ → Result ℕ QuantityError
factor_in [] c = Err BadText
factor_in (e ∷ es) c = if c == e.0 then Ok e.1 else factor_in es c

-- one digit or more, and nothing else
abbrev pub is_numeral : List ℕ → Bool
is_numeral ds = nat_lt 0 (length ds) && list_all is_ascii_digit ds

-- ten to the power n or -n, from -9 to 18
abbrev pub power_factor : Bool → ℕ → Result ℕ QuantityError
power_factor true n = if nat_le n 9 then Ok (10 ^ (9 - n)) else Err OutOfRange
power_factor false n = if nat_le n 18 then Ok (10 ^ (9 + n)) else Err OutOfRange

-- what follows an e
abbrev pub exponent_factor : List ℕ → Result ℕ QuantityError
exponent_factor cs = if is_numeral (sign_of cs).1 then power_factor (sign_of cs).0 (digits_value (sign_of cs).1) else Err BadText

abbrev pub scientific_factor : ℕ → List ℕ → Result ℕ QuantityError
scientific_factor c cs = if c == 101 then exponent_factor cs else (if c == 69 then exponent_factor cs else Err BadText)

abbrev pub suffix_factor : List ℕ → Result ℕ QuantityError
suffix_factor [] = Ok (10 ^ 9)
suffix_factor (c ∷ []) = factor_in decimal_factors c
suffix_factor (c ∷ d ∷ []) = if d == 105 then factor_in binary_factors c else scientific_factor c (d ∷ [])
suffix_factor (c ∷ d ∷ e ∷ es) = scientific_factor c (d ∷ e ∷ es)

-- ---- the value

abbrev pub up_to_most : ℕ → Result ℕ QuantityError
up_to_most n = if nat_le n most then Ok n else Err OutOfRange

-- the number with its last digits behind a point: it must be whole, and then in range
abbrev pub magnitude_of : ℕ → ℕ → Result ℕ QuantityError
magnitude_of n places = if n % 10 ^ places == 0 then up_to_most (n / 10 ^ places) else Err TooPrecise

abbrev pub signed : Bool → ℕ → ℤ
signed negative n = if negative then neg_ℤ (pos n) else pos n

abbrev pub with_sign : Bool → Result ℕ QuantityError → Result ℤ QuantityError
with_sign negative (Ok n) = Ok (signed negative n)
with_sign negative (Err e) = Err e

-- digits, digits behind the point, times the factor
abbrev pub magnitude_times : List ℕ → List ℕ → Result ℕ QuantityError → Result ℕ QuantityError
magnitude_times whole fraction (Ok factor) = magnitude_of (digits_value (whole ++ fraction) * factor) (length fraction)
magnitude_times whole fraction (Err e) = Err e

abbrev pub number_value : List ℕ → List ℕ → List ℕ → Result ℕ QuantityError
number_value whole fraction suffix =
    if length whole + length fraction == 0 then Err BadText else magnitude_times whole fraction (suffix_factor suffix)

-- a number and a suffix
abbrev pub magnitude_value : List ℕ → Result ℕ QuantityError
magnitude_value cs =
    number_value (digits_of cs).0 (fraction_of (digits_of cs).1).0 (fraction_of (digits_of cs).1).1

-- a sign, a number and a suffix, in 64 bytes at most
unfoldable pub quantity_value : List ℕ → Result ℤ QuantityError
quantity_value cs =
    if nat_lt 64 (length cs) then Err BadText else with_sign (sign_of cs).0 (magnitude_value (sign_of cs).1)
