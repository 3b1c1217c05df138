-- What a quantity prints is read as that quantity.
use Rattle.std.proofs.Common.{◌≡◌, ℕ, zero, suc, ◌+◌, ◌-◌, ◌*◌, ◌/◌, ◌%◌, ◌^◌, ◌<◌, ◌≤◌, true, false, List, [], ◌∷◌, ◌++◌, length, refl, sym, ap, ◌∙◌, arith, rules, ℤ, pos, negsuc, length-append, lit<, eq-eqb, ne_eqb, decimal}
use Rattle.std.specs.Prelude.{Ok, ◌==◌}
use Rattle.std.specs.List.{prefix_len}
use Rattle.std.specs.Char.{is_ascii_digit}
use Rattle.std.proofs.lemmas.Bool.Decides.{nat_tests}
use Rattle.std.proofs.lemmas.Fmt.{digits_decimal, digits_value-decimal, length-decimal-le, decimal_nonempty}
use Rattle.std.proofs.lemmas.Int.{ints}
use Rattle.std.proofs.lemmas.Nat.{div-add-mod'}
use Rattle.std.proofs.lemmas.Str.Parse.{IsDigitsTest, WeighsDigits, IsNumeralModel, numerals_by_weight}
use Rattle.std.proofs.Math.Nat.{pow-succ', mul-mod_left, mul-div_cancel, mod-lt, div-lt_iff_lt-mul}
use Rattle.quantity.specs.Range.{most, IsInRange}
use Rattle.quantity.specs.Value.{digits_value, sign_of, fraction_of, number_value, magnitude_value, magnitude_of, up_to_most, quantity_value, AreDigits}
use Rattle.quantity.specs.Printed.{places_text, fraction_text, magnitude_text, printed}
use Rattle.quantity.proofs.CellLemmas.{one_le_pow}
use Rattle.quantity.proofs.DigitLemmas.{digits_of-append, digits_of-all, sign_of-digits}
use Rattle.quantity.proofs.NumberLemmas.{digits_value-append}
use Rattle.quantity.proofs.PlaceLemmas.{places_text-none, places_text-zero, places_text-some}
use Rattle.quantity.proofs.ValueLemmas.{value_ok}

-- ---- the digits of a whole number

tells : IsDigitsTest AreDigits
tells = search rules

weighs : WeighsDigits digits_value
weighs = search rules

own : IsNumeralModel AreDigits digits_value
own = numerals_by_weight AreDigits tells digits_value weighs

-- ---- the decimal places

some : (n : ℕ) → suc n ≡ 0 → ⊥
some n e = omega (arith, e)

place_lt : (k n : ℕ) → n < 10 ^ suc k → n / 10 ^ k < 10
place_lt k n h = (div-lt_iff_lt-mul {k = 10 ^ k} {x = n} {y = 10} (one_le_pow k)).1 (omega (arith, h, pow-succ' 10 k))

AreDigits-places : (k n : ℕ) → n < 10 ^ k → AreDigits (places_text k n)
AreDigits-places zero n h = rw (places_text-zero n) tt
AreDigits-places (suc k) zero h = rw (places_text-none (suc k)) tt
AreDigits-places (suc k) (suc n) h = rw (places_text-some k (suc n) (some n)) (omega arith, omega (arith, place_lt k (suc n) h), AreDigits-places k (suc n % 10 ^ k) (mod-lt (suc n) (one_le_pow k)))

length-places-le : (k n : ℕ) → length (places_text k n) ≤ k
length-places-le zero n = rw (places_text-zero n) (omega arith)
length-places-le (suc k) zero = rw (places_text-none (suc k)) (omega arith)
length-places-le (suc k) (suc n) = rw (places_text-some k (suc n) (some n)) (omega (arith, length-places-le k (suc n % 10 ^ k)))

-- one more decimal place
place_more : (q p l d n r : ℕ) → q * p + r ≡ n → d * p ≡ r * l → (q * l + d) * (10 * p) ≡ n * (10 * l)
place_more q p l d n r e f =
    let g : (q * p + r) * l ≡ n * l = ap (λ m. m * l) e in
    omega (arith, f, g)

places_value : (k n : ℕ) → n < 10 ^ k → digits_value (places_text k n) * 10 ^ k ≡ n * 10 ^ length (places_text k n)
places_value zero n h = rw (places_text-zero n) (omega (arith, h))
places_value (suc k) zero h = rw (places_text-none (suc k)) (omega arith)
places_value (suc k) (suc n) h =
    let rest = places_text k (suc n % 10 ^ k) in
    let ih = places_value k (suc n % 10 ^ k) (mod-lt (suc n) (one_le_pow k)) in
    let q = suc n / 10 ^ k in
    let e = place_more q (10 ^ k) (10 ^ length rest) (digits_value rest) (suc n) (suc n % 10 ^ k) (div-add-mod' (suc n) (10 ^ k)) ih in
    let digit : 48 + q - 48 ≡ q = omega arith in
    rw (places_text-some k (suc n) (some n), pow-succ' 10 k, pow-succ' 10 (length rest), digit) e

-- ---- the text without its sign

magnitude_of-times : (m places : ℕ) → m ≤ most → magnitude_of (m * 10 ^ places) places ≡ Ok m
magnitude_of-times m places h =
    let within : up_to_most m ≡ Ok m = grind (arith, nat_tests) in
    rw (eq-eqb _ _ (mul-mod_left m (10 ^ places)), mul-div_cancel m (one_le_pow places)) within

number_value-whole : (whole fraction : List ℕ) (m : ℕ) → 0 < length whole → m ≤ most → digits_value (whole ++ fraction) * 10 ^ 9 ≡ m * 10 ^ length fraction → number_value whole fraction [] ≡ Ok m
number_value-whole whole fraction m h small e =
    let digits : (length whole + length fraction == 0) ≡ false = grind (arith, nat_tests) in
    rw (digits, e) (magnitude_of-times m (length fraction) small)

no_digit : (f : ℕ) → prefix_len is_ascii_digit (fraction_text f) ≡ 0
no_digit zero = refl
no_digit (suc f) = rw (ne_eqb _ _ (some f)) refl

fraction_of-text : (f : ℕ) → f < 10 ^ 9 → fraction_of (fraction_text f) ≡ (places_text 9 f, [])
fraction_of-text zero h = rw (places_text-none 9) refl
fraction_of-text (suc f) h = rw (ne_eqb _ _ (some f)) (digits_of-all (places_text 9 (suc f)) (AreDigits-places 9 (suc f) h))

with_places : (w p l d m f : ℕ) → w * p + f ≡ m → d * p ≡ f * l → (w * l + d) * p ≡ m * l
with_places w p l d m f e g =
    let k : (w * p + f) * l ≡ m * l = ap (λ n. n * l) e in
    omega (arith, g, k)

whole_small : (m : ℕ) → m ≤ most → m / 10 ^ 9 < 10 ^ 19
whole_small m h = omega (arith, h)

text_value : (m : ℕ) → m ≤ most → magnitude_value (magnitude_text m) ≡ Ok m
unfolding magnitude_text
text_value m h =
    let w = m / 10 ^ 9 in
    let f = m % 10 ^ 9 in
    let fits : w < 2 ^ 64 = omega (arith, h) in
    let part : f < 10 ^ 9 = omega arith in
    let front = digits_of-append (decimal w) (fraction_text f) (digits_decimal own w fits) (no_digit f) in
    let sum : digits_value (decimal w ++ places_text 9 f) ≡ w * 10 ^ length (places_text 9 f) + digits_value (places_text 9 f) =
    digits_value-append (decimal w) (places_text 9 f) ∙ ap (λ n. n * 10 ^ length (places_text 9 f) + digits_value (places_text 9 f)) (digits_value-decimal own w fits) in
    let value = ap (λ n. n * 10 ^ 9) sum ∙ with_places w (10 ^ 9) (10 ^ length (places_text 9 f)) (digits_value (places_text 9 f)) m f (div-add-mod' m (10 ^ 9)) (places_value 9 f part) in
    ap (λ (p : List ℕ × List ℕ). number_value p.0 (fraction_of p.1).0 (fraction_of p.1).1) front
    ∙ ap (λ (p : List ℕ × List ℕ). number_value (decimal w) p.0 p.1) (fraction_of-text f part)
    ∙ number_value-whole (decimal w) (places_text 9 f) m (decimal_nonempty w fits) h value

text_sign : (m : ℕ) → m ≤ most → sign_of (magnitude_text m) ≡ (false, magnitude_text m)
unfolding magnitude_text
text_sign m h =
    let fits : m / 10 ^ 9 < 2 ^ 64 = omega (arith, h) in
    sign_of-digits (decimal (m / 10 ^ 9)) (fraction_text (m % 10 ^ 9)) (digits_decimal own _ fits) (decimal_nonempty _ fits)

length-fraction-le : (f : ℕ) → length (fraction_text f) ≤ 10
length-fraction-le zero = omega arith
length-fraction-le (suc f) = rw (ne_eqb _ _ (some f)) (omega (arith, length-places-le 9 (suc f)))

text_short : (m : ℕ) → m ≤ most → length (magnitude_text m) ≤ 29
unfolding magnitude_text
text_short m h =
    let fits : m / 10 ^ 9 < 2 ^ 64 = omega (arith, h) in
    let w = length-decimal-le 19 (m / 10 ^ 9) (lit< tt) (whole_small m h) fits in
    omega (arith, w, length-fraction-le (m % 10 ^ 9), length-append (decimal (m / 10 ^ 9)) (fraction_text (m % 10 ^ 9)))

-- ---- the whole text

pub reads_back : (n : ℤ) → IsInRange n → quantity_value (printed n) ≡ Ok n
reads_back (pos m) h =
    let small : m ≤ most = omega (arith, ints, h.1) in
    value_ok (magnitude_text m) (magnitude_text m) false (Ok m) m (omega (arith, text_short m small)) (sym (text_sign m small)) (sym (text_value m small)) refl
reads_back (negsuc k) h =
    let small : suc k ≤ most = omega (arith, ints, h.0) in
    value_ok (45 ∷ magnitude_text (suc k)) (magnitude_text (suc k)) true (Ok (suc k)) (suc k) (omega (arith, text_short (suc k) small)) refl (sym (text_value (suc k) small)) refl
