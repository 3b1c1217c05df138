-- The digits of a number: they are there, and are neither a blank, nor LF, nor a control character.
use Rattle.std.proofs.Common.{ℕ, zero, suc, ◌≡◌, ◌<◌, ◌≤◌, ◌+◌, ◌/◌, ◌%◌, ◌==◌, ◌++◌, List, [], ◌∷◌, Bool, true, false, not, nat_lt, if◌then◌else◌, map, refl, ap, arith}
use Rattle.std.proofs.Math.Nat.{mod-lt}
use Rattle.std.proofs.lemmas.Bool.{and_from, le-ltb, lt-ltb, ne_eqb}
use Rattle.std.specs.Fmt.{digit_glyph, digits, digits_onto}
use Rattle.std.specs.Prelude.{decimal}
use Rattle.journal_text.specs.Journal.{clean}
use Rattle.journal_laws.proofs.Cuts.{head_same, lacks}

pub record IsDigit (d : ℕ) : Type 0 where
  pub low : 48 ≤ d
  pub high : d ≤ 57

abbrev pub AreDigits : List ℕ → Type 0
AreDigits [] = Unit {0}
AreDigits (d ∷ ds) = IsDigit d × AreDigits ds

-- one digit or more
abbrev pub IsNumber : List ℕ → Type 0
IsNumber [] = ⊥
IsNumber (d ∷ ds) = IsDigit d × AreDigits ds

pub number_digits : (ds : List ℕ) → IsNumber ds → AreDigits ds
number_digits [] h = absurd h
number_digits (d ∷ ds) h = h

glyph_is : (d : ℕ) → d < 10 → digit_glyph false d ≡ 48 + d
glyph_is d less = ap (λ (b : Bool). if b then 48 + d else (if false then 55 + d else 87 + d)) (lt-ltb d 10 less)

small_digit : (d g : ℕ) → d < 10 → g ≡ 48 + d → IsDigit g
small_digit d g less is = record { low = omega (arith, is); high = omega (arith, is, less) }

glyph : (n : ℕ) → IsDigit (digit_glyph false (n % 10))
glyph n = let less : n % 10 < 10 = mod-lt n (omega arith) in small_digit (n % 10) (digit_glyph false (n % 10)) less (glyph_is (n % 10) less)

choose : (b : Bool) (xs ys : List ℕ) → IsNumber xs → IsNumber ys → IsNumber (if b then xs else ys)
choose true xs ys h g = h
choose false xs ys h g = g

onto_number : (k n : ℕ) (acc : List ℕ) → AreDigits acc → IsNumber (digits_onto (suc k) 10 false n acc)
onto_number zero n acc h =
    choose (n / 10 == 0) (digit_glyph false (n % 10) ∷ acc) (digit_glyph false (n % 10) ∷ acc) (glyph n, h) (glyph n, h)
onto_number (suc k) n acc h =
    choose (n / 10 == 0) (digit_glyph false (n % 10) ∷ acc) (digits_onto (suc k) 10 false (n / 10) (digit_glyph false (n % 10) ∷ acc)) (glyph n, h)
    (onto_number k (n / 10) (digit_glyph false (n % 10) ∷ acc) (glyph n, h))

pub decimal_number : (n : ℕ) → IsNumber (decimal n)
unfolding digits
decimal_number n = onto_number 63 n [] tt

pub decimal_digits : (n : ℕ) → AreDigits (decimal n)
decimal_digits n = number_digits (decimal n) (decimal_number n)

-- ---- bytes that digits aren't

pub digits_lack : (c : ℕ) (ds : List ℕ) → c < 48 → AreDigits ds → lacks c ds ≡ true
digits_lack c [] less h = refl
digits_lack c (d ∷ ds) less h = and_from _ _ (ap not (ne_eqb d c (λ e. omega (arith, e, less, h.0.low)))) (digits_lack c ds less h.1)

clean_by : (t u : Bool) (d : ℕ) → nat_lt d 32 ≡ t → (d == 127) ≡ u → t ≡ false → u ≡ false → clean d ≡ d
clean_by t u d p q f g = rw (p, q, f, g) refl

clean_digit : (d : ℕ) → IsDigit d → clean d ≡ d
clean_digit d h = clean_by (nat_lt d 32) (d == 127) d refl refl (le-ltb d 32 (omega (arith, h.low))) (ne_eqb d 127 (λ e. omega (arith, e, h.high)))

pub clean_digits : (ds : List ℕ) → AreDigits ds → map clean ds ≡ ds
clean_digits [] h = refl
clean_digits (d ∷ ds) h = rw (clean_digit d h.0, clean_digits ds h.1) refl

-- a text that begins with a byte above the digits, or with none
abbrev pub IsAbove : List ℕ → Type 0
IsAbove [] = Unit {0}
IsAbove (c ∷ cs) = 57 < c

pub above_apart : (x ds r : List ℕ) → IsAbove x → IsNumber ds → x ≡ ds ++ r → ⊥
above_apart x [] r above number e = number
above_apart [] (d ∷ ds) r above number e = absurd (cc)
above_apart (c ∷ cs) (d ∷ ds) r above number e = omega (arith, above, number.0.high, head_same c d cs (ds ++ r) e)
