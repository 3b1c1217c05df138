-- Numbers of few digits.
use Rattle.std.proofs.Common.{◌≡◌, ℕ, ◌+◌, ◌*◌, ◌/◌, ◌%◌, ◌^◌, ◌<◌, ◌≤◌, List, ◌++◌, length, length-append, arith, sym, ◌∙◌, ap, eq-eqb, lit<}
use Rattle.std.proofs.Math.Nat.{mul-le-mul_left, pow-le-pow_right}
use Rattle.quantity.specs.Value.{digits_value, magnitude_of, up_to_most, AreDigits}
use Rattle.quantity.proofs.CellLemmas.{digits_value-lt, one_le_pow}
use Rattle.quantity.proofs.NumberLemmas.{AreDigits-append, both_pushed, room_for}

pub not_zero : (n m : ℕ) → m ≡ 10 ^ n → 0 < m
not_zero n m e = omega (arith, e, one_le_pow n)

-- there is room for the digits behind the point
pub room_behind : (v : ℕ) (whole fraction : List ℕ) → AreDigits whole → v ≡ 0 * 10 ^ length whole + digits_value whole → length whole + length fraction ≤ 10 → (v + 1) * 10 ^ length fraction ≤ 10 ^ 10
room_behind v whole fraction a e few =
    let below : v < 10 ^ length whole = omega (arith, e, digits_value-lt whole a) in
    room_for v (length whole) (length fraction) 10 below few

-- the number, and how large it is
pub all_digits : (v w : ℕ) (whole fraction : List ℕ) → v ≡ 0 * 10 ^ length whole + digits_value whole → w ≡ v * 10 ^ length fraction + digits_value fraction → w ≡ digits_value (whole ++ fraction)
all_digits v w whole fraction e f = both_pushed whole fraction v w (omega (arith, e)) f

pub product_fits : (w f : ℕ) (whole fraction : List ℕ) → AreDigits whole → AreDigits fraction → length whole + length fraction ≤ 10 → w ≡ digits_value (whole ++ fraction) → f ≤ 1152921504606846976000000000
    → w * f < 2 ^ 128
product_fits w f whole fraction a b few e small =
    let below : digits_value (whole ++ fraction) < 10 ^ length (whole ++ fraction) = digits_value-lt (whole ++ fraction) (AreDigits-append whole fraction a b) in
    let short : length (whole ++ fraction) ≤ 10 = omega (arith, length-append whole fraction, few) in
    let p : 10 ^ length (whole ++ fraction) ≤ 10 ^ 10 = pow-le-pow_right (lit< tt) short in
    let q : w * f ≤ w * 1152921504606846976000000000 = mul-le-mul_left w small in
    omega (arith, below, p, q, e)

-- the whole of the division, if there is no rest
pub divided : (n k m : ℕ) → m ≡ 10 ^ k → n % m ≡ 0 → up_to_most (n / m) ≡ magnitude_of n k
divided n k m e none =
    let zero : n % 10 ^ k ≡ 0 = ap (λ (q : ℕ). n % q) (sym e) ∙ none in
    ap (λ (q : ℕ). up_to_most (n / q)) e ∙ rw (eq-eqb _ _ zero)
