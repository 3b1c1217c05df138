-- How a quantity prints: its sign, its whole part, and where it has a fraction a point and the
-- digits of the fraction without trailing zeros.
use Rattle.std.specs.Prelude.{ℕ, suc, zero, ◌+◌, ◌/◌, ◌%◌, ◌^◌, ℤ, pos, negsuc, List, [], ◌∷◌, ◌++◌, if◌then◌else◌, ◌==◌, decimal}

-- n as the last k decimal places, up to its last digit that isn't 0
unfoldable pub places_text : ℕ → ℕ → List ℕ
places_text zero n = []
places_text (suc k) n = if n == 0 then [] else (48 + n / 10 ^ k) ∷ places_text k (n % 10 ^ k)

abbrev pub fraction_text : ℕ → List ℕ
fraction_text n = if n == 0 then [] else 46 ∷ places_text 9 n

unfoldable pub magnitude_text : ℕ → List ℕ
magnitude_text n = decimal (n / 10 ^ 9) ++ fraction_text (n % 10 ^ 9)

abbrev pub printed : ℤ → List ℕ
printed (pos n) = magnitude_text n
printed (negsuc n) = 45 ∷ magnitude_text (suc n)
