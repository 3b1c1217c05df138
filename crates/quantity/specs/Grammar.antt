-- The grammar of quantities, as the texts that it spells:
--   quantity = [ "+" | "-" ] number [ suffix ]
--   number   = digits [ "." [ digits ] ] | "." digits
--   suffix   = a letter of decimal_factors | a letter of binary_factors "i" | ( "e" | "E" ) [ "+" | "-" ] digits
use Rattle.std.specs.Prelude.{◌≡◌, ℕ, ◌+◌, ◌^◌, ◌<◌, Bool, true, false, List, [], ◌∷◌, ◌++◌, length, Result, Ok}
use Rattle.quantity.specs.Value.{digits_value, factor_in, decimal_factors, binary_factors, power_factor, AreDigits}
use Rattle.quantity.specs.declared.error.QuantityError.{QuantityError}

pub data Sign : Type 0 where
  Unsigned : Sign
  Plus : Sign
  Minus : Sign

abbrev pub sign_text : Sign → List ℕ
sign_text Unsigned = []
sign_text Plus = 43 ∷ []
sign_text Minus = 45 ∷ []

abbrev pub is_minus : Sign → Bool
is_minus Unsigned = false
is_minus Plus = false
is_minus Minus = true

-- digits alone, or a point with digits before it, behind it or both
pub data Number : Type 0 where
  Whole : List ℕ → Number
  Pointed : List ℕ → List ℕ → Number

abbrev pub number_text : Number → List ℕ
number_text (Whole ds) = ds
number_text (Pointed ds fs) = ds ++ 46 ∷ fs

abbrev pub IsNumber : Number → Type 0
IsNumber (Whole ds) = AreDigits ds × (0 < length ds)
IsNumber (Pointed ds fs) = AreDigits ds × AreDigits fs × (0 < length ds + length fs)

abbrev pub whole : Number → List ℕ
whole (Whole ds) = ds
whole (Pointed ds fs) = ds

abbrev pub fraction : Number → List ℕ
fraction (Whole ds) = []
fraction (Pointed ds fs) = fs

-- nothing, a letter with its factor, a letter with its factor and an i, or an E or e with an exponent
pub data Suffix : Type 0 where
  Bare : Suffix
  Decimal : ℕ → ℕ → Suffix
  Binary : ℕ → ℕ → Suffix
  Exponent : Bool → Sign → List ℕ → Suffix

abbrev pub exponent_letter : Bool → ℕ
exponent_letter true = 69
exponent_letter false = 101

abbrev pub suffix_text : Suffix → List ℕ
suffix_text Bare = []
suffix_text (Decimal c f) = c ∷ []
suffix_text (Binary c f) = c ∷ 105 ∷ []
suffix_text (Exponent upper s ds) = exponent_letter upper ∷ (sign_text s ++ ds)

abbrev pub IsSuffix : Suffix → Type 0
IsSuffix Bare = Unit {0}
IsSuffix (Decimal c f) = factor_in decimal_factors c ≡ Ok f
IsSuffix (Binary c f) = factor_in binary_factors c ≡ Ok f
IsSuffix (Exponent upper s ds) = AreDigits ds × (0 < length ds)

abbrev pub factor : Suffix → Result ℕ QuantityError
factor Bare = Ok (10 ^ 9)
factor (Decimal c f) = Ok f
factor (Binary c f) = Ok f
factor (Exponent upper s ds) = power_factor (is_minus s) (digits_value ds)

abbrev pub spelled : Sign → Number → Suffix → List ℕ
spelled s n x = sign_text s ++ (number_text n ++ suffix_text x)

-- the grammar spells the text
abbrev pub IsSpelled : List ℕ → Type 0
IsSpelled cs = (s : Sign) × (n : Number) × (x : Suffix) × IsNumber n × IsSuffix x × (cs ≡ spelled s n x)
