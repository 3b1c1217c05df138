-- The texts of the grammar are those that have a value or are refused for it.
use Rattle.std.proofs.Common.{◌≡◌, ℕ, zero, suc, ◌+◌, ◌<◌, ◌≤◌, ◌⊎◌, inl, inr, Bool, true, false, List, [], ◌∷◌, ◌++◌, length, refl, sym, ap, ◌∙◌, arith, rules, eq-eqb, eqb-true, append_assoc, ℤ}
use Rattle.std.specs.Prelude.{Result, Ok, Err, nat_lt, if◌then◌else◌, ◌==◌}
use Rattle.std.specs.List.{prefix_len, list_all}
use Rattle.std.specs.Char.{is_ascii_digit}
use Rattle.std.proofs.lemmas.List.{take-append-drop}
use Rattle.std.proofs.lemmas.Bool.Decides.{nat_tests}
use Rattle.quantity.specs.Value.{digits_value, sign_of, digits_of, fraction_of, number_value, magnitude_value, magnitude_times, suffix_factor, scientific_factor, exponent_factor, power_factor, factor_in, decimal_factors, binary_factors, is_numeral, quantity_value, with_sign, AreDigits}
use Rattle.quantity.specs.Grammar.{Sign, Unsigned, Plus, Minus, sign_text, is_minus, Number, Whole, Pointed, number_text, IsNumber, whole, fraction, Suffix, Bare, Decimal, Binary, Exponent, exponent_letter, suffix_text, IsSuffix, factor, spelled, IsSpelled}
use Rattle.quantity.specs.declared.error.QuantityError.{QuantityError}
use Rattle.quantity.specs.declared.error.QuantityError.TheVariants.{BadText}
use Rattle.quantity.proofs.NumberLemmas.{AreDigits-front, AreDigits-from_numeral}
use Rattle.quantity.proofs.DigitLemmas.{digit_is, digits_of-append, sign_of-digit}
use Rattle.quantity.proofs.ValueLemmas.{value_is}

-- ---- what the grammar spells is read by its parts

sign_of-number : (n : Number) (rest : List ℕ) → IsNumber n → sign_of (number_text n ++ rest) ≡ (false, number_text n ++ rest)
sign_of-number (Whole []) rest h = absurd (omega (arith, h.1))
sign_of-number (Whole (d ∷ ds)) rest h = sign_of-digit d (ds ++ rest) h.0.0
sign_of-number (Pointed [] fs) rest h = refl
sign_of-number (Pointed (d ∷ ds) fs) rest h = sign_of-digit d (ds ++ 46 ∷ fs ++ rest) h.0.0

sign_of-numeral : (ds : List ℕ) → AreDigits ds → sign_of ds ≡ (false, ds)
sign_of-numeral [] a = refl
sign_of-numeral (d ∷ ds) a = sign_of-digit d ds a.0

sign_of-text : (s : Sign) (cs : List ℕ) → sign_of cs ≡ (false, cs) → sign_of (sign_text s ++ cs) ≡ (is_minus s, cs)
sign_of-text Unsigned cs h = h
sign_of-text Plus cs h = refl
sign_of-text Minus cs h = refl

-- a letter of a table is neither a digit nor a point
abbrev Above : List (ℕ × ℕ) → Type 0
Above [] = Unit {0}
Above (e ∷ es) = (64 < e.0) × Above es

letter_step : (b : Bool) (e : ℕ × ℕ) (es : List (ℕ × ℕ)) (c f : ℕ) → (c == e.0) ≡ b → 64 < e.0 → (factor_in es c ≡ Ok f → 64 < c) → (if b then Ok e.1 else factor_in es c) ≡ Ok f → 64 < c
letter_step true e es c f same a ih h = omega (arith, a, eqb-true c e.0 same)
letter_step false e es c f same a ih h = ih h

letter_above : (t : List (ℕ × ℕ)) (c f : ℕ) → Above t → factor_in t c ≡ Ok f → 64 < c
letter_above [] c f a h = cc
letter_above (e ∷ es) c f a h = letter_step (c == e.0) e es c f refl a.0 (letter_above es c f a.1) h

letter_digit : (c : ℕ) → 64 < c → is_ascii_digit c ≡ false
letter_digit c h = grind (arith, nat_tests)

letter_point : (c : ℕ) → 64 < c → (c == 46) ≡ false
letter_point c h = grind (arith, nat_tests)

letter_len : (c : ℕ) (cs : List ℕ) → 64 < c → prefix_len is_ascii_digit (c ∷ cs) ≡ 0
letter_len c cs h = rw (letter_digit c h) refl

letter_fraction : (c : ℕ) (cs : List ℕ) → 64 < c → fraction_of (c ∷ cs) ≡ ([], c ∷ cs)
letter_fraction c cs h = rw (letter_point c h) refl

decimal_above : Above decimal_factors
decimal_above = search rules

binary_above : Above binary_factors
binary_above = search rules

suffix_len : (x : Suffix) → IsSuffix x → prefix_len is_ascii_digit (suffix_text x) ≡ 0
suffix_len Bare h = refl
suffix_len (Decimal c f) h = letter_len c [] (letter_above decimal_factors c f decimal_above h)
suffix_len (Binary c f) h = letter_len c (105 ∷ []) (letter_above binary_factors c f binary_above h)
suffix_len (Exponent true s ds) h = refl
suffix_len (Exponent false s ds) h = refl

suffix_fraction : (x : Suffix) → IsSuffix x → fraction_of (suffix_text x) ≡ ([], suffix_text x)
suffix_fraction Bare h = refl
suffix_fraction (Decimal c f) h = letter_fraction c [] (letter_above decimal_factors c f decimal_above h)
suffix_fraction (Binary c f) h = letter_fraction c (105 ∷ []) (letter_above binary_factors c f binary_above h)
suffix_fraction (Exponent true s ds) h = refl
suffix_fraction (Exponent false s ds) h = refl

all_digits : (ds : List ℕ) → AreDigits ds → list_all is_ascii_digit ds ≡ true
all_digits [] a = refl
all_digits (d ∷ ds) a = rw (digit_is d a.0 a.1, all_digits ds a.2) refl

numeral_is : (ds : List ℕ) → AreDigits ds → 0 < length ds → is_numeral ds ≡ true
numeral_is ds a h =
    let some : nat_lt 0 (length ds) ≡ true = grind (arith, nat_tests) in
    rw (some, all_digits ds a) refl

exponent_is : (s : Sign) (ds : List ℕ) → AreDigits ds → 0 < length ds → exponent_factor (sign_text s ++ ds) ≡ power_factor (is_minus s) (digits_value ds)
exponent_is s ds a h =
    let e = sign_of-text s ds (sign_of-numeral ds a) in
    let n : is_numeral (sign_of (sign_text s ++ ds)).1 ≡ true = ap (λ (p : Bool × List ℕ). is_numeral p.1) e ∙ numeral_is ds a h in
    rw n (ap (λ (p : Bool × List ℕ). power_factor p.0 (digits_value p.1)) e)

scientific_is : (upper : Bool) (cs : List ℕ) → scientific_factor (exponent_letter upper) cs ≡ exponent_factor cs
scientific_is true cs = refl
scientific_is false cs = refl

suffix_scientific : (c : ℕ) (s : Sign) (ds : List ℕ) → AreDigits ds → 0 < length ds → suffix_factor (c ∷ (sign_text s ++ ds)) ≡ scientific_factor c (sign_text s ++ ds)
suffix_scientific c s [] a h = absurd (omega (arith, h))
suffix_scientific c Unsigned (d ∷ []) a h =
    let other : (d == 105) ≡ false = (let high = a.1 in grind (arith, nat_tests)) in
    rw other refl
suffix_scientific c Unsigned (d ∷ e ∷ ds) a h = refl
suffix_scientific c Plus (d ∷ ds) a h = refl
suffix_scientific c Minus (d ∷ ds) a h = refl

suffix_is : (x : Suffix) → IsSuffix x → suffix_factor (suffix_text x) ≡ factor x
suffix_is Bare h = refl
suffix_is (Decimal c f) h = h
suffix_is (Binary c f) h = h
suffix_is (Exponent upper s ds) h = suffix_scientific (exponent_letter upper) s ds h.0 h.1 ∙ scientific_is upper (sign_text s ++ ds) ∙ exponent_is s ds h.0 h.1

abbrev parts_value : List ℕ × List ℕ → Result ℕ QuantityError
parts_value p = number_value p.0 (fraction_of p.1).0 (fraction_of p.1).1

number_is : (n : Number) (rest : List ℕ) → IsNumber n → prefix_len is_ascii_digit rest ≡ 0 → fraction_of rest ≡ ([], rest) → magnitude_value (number_text n ++ rest) ≡ number_value (whole n) (fraction n) rest
number_is (Whole ds) rest h e f =
    ap parts_value (digits_of-append ds rest h.0 e) ∙ ap (λ (p : List ℕ × List ℕ). number_value ds p.0 p.1) f
number_is (Pointed ds fs) rest h e f =
    ap magnitude_value (append_assoc ds (46 ∷ fs) rest) ∙ ap parts_value (digits_of-append ds (46 ∷ (fs ++ rest)) h.0 refl)
    ∙ ap (λ (p : List ℕ × List ℕ). number_value ds p.0 p.1) (digits_of-append fs rest h.1 e)

number_some : (n : Number) → IsNumber n → (length (whole n) + length (fraction n) == 0) ≡ false
number_some (Whole ds) h = (let some = h.1 in grind (arith, nat_tests))
number_some (Pointed ds fs) h = (let some = h.2 in grind (arith, nat_tests))

pub spelled_value : (s : Sign) (n : Number) (x : Suffix) → IsNumber n → IsSuffix x → length (spelled s n x) ≤ 64 → quantity_value (spelled s n x) ≡ with_sign (is_minus s) (magnitude_times (whole n) (fraction n) (factor x))
spelled_value s n x h k short =
    let rest = number_text n ++ suffix_text x in
    let m : magnitude_value rest ≡ magnitude_times (whole n) (fraction n) (factor x) =
    number_is n (suffix_text x) h (suffix_len x k) (suffix_fraction x k) ∙ rw (number_some n h, suffix_is x k) refl in
    value_is (spelled s n x) rest (is_minus s) _ short (sym (sign_of-text s rest (sign_of-number n (suffix_text x) h))) (sym m)

-- ---- any other text is refused as bad

in_table_step : (b : Bool) (f : ℕ) (r : Result ℕ QuantityError) → (r ≡ Err BadText) ⊎ ((g : ℕ) × (r ≡ Ok g)) → ((if b then Ok f else r) ≡ Err BadText) ⊎ ((g : ℕ) × ((if b then Ok f else r) ≡ Ok g))
in_table_step true f r h = inr (f, refl)
in_table_step false f r h = h

in_table : (t : List (ℕ × ℕ)) (c : ℕ) → (factor_in t c ≡ Err BadText) ⊎ ((f : ℕ) × (factor_in t c ≡ Ok f))
in_table [] c = inl refl
in_table (e ∷ es) c = in_table_step (c == e.0) e.1 (factor_in es c) (in_table es c)

abbrev sign_by : Bool → Bool → ℕ → List ℕ → Bool × List ℕ
sign_by minus plus c cs = if minus then (true, cs) else (if plus then (false, cs) else (false, c ∷ cs))

sign_step : (minus plus : Bool) (c : ℕ) (cs : List ℕ) → (c == 45) ≡ minus → (c == 43) ≡ plus → (s : Sign) × (c ∷ cs ≡ sign_text s ++ (sign_by minus plus c cs).1)
sign_step true plus c cs e f = (Minus, ap (λ n. n ∷ cs) (eqb-true c 45 e))
sign_step false true c cs e f = (Plus, ap (λ n. n ∷ cs) (eqb-true c 43 f))
sign_step false false c cs e f = (Unsigned, refl)

sign_split : (cs : List ℕ) → (s : Sign) × (cs ≡ sign_text s ++ (sign_of cs).1)
sign_split [] = (Unsigned, refl)
sign_split (c ∷ cs) = sign_step (c == 45) (c == 43) c cs refl refl

abbrev NumberSplit : List ℕ → List ℕ → List ℕ × List ℕ → Type 0
NumberSplit ds cs p = (length ds + length p.0 ≡ 0) ⊎ ((n : Number) × IsNumber n × (cs ≡ number_text n ++ p.1))

whole_split : (ds cs : List ℕ) → AreDigits ds → NumberSplit ds (ds ++ cs) ([], cs)
whole_split [] cs a = inl refl
whole_split (d ∷ ds) cs a = inr (Whole (d ∷ ds), (a, omega arith), refl)

none_or_some : (n : ℕ) → (n ≡ 0) ⊎ (0 < n)
none_or_some zero = inl refl
none_or_some (suc n) = inr (omega arith)

point_split : (b : Bool) (ds : List ℕ) (c : ℕ) (cs : List ℕ) → (c == 46) ≡ b → AreDigits ds → NumberSplit ds (ds ++ c ∷ cs) (if b then digits_of cs else ([], c ∷ cs))
point_split false ds c cs e a = whole_split ds (c ∷ cs) a
point_split true ds c cs e a =
    let fs = (digits_of cs).0 in
    let rest = (digits_of cs).1 in
    let parts : fs ++ rest ≡ cs = take-append-drop (prefix_len is_ascii_digit cs) cs in
    elim (none_or_some (length ds + length fs)) [
      | inl none ↦ inl none
      | inr more ↦ inr (Pointed ds fs, (a, AreDigits-front cs, more), ap (λ n. ds ++ n ∷ cs) (eqb-true c 46 e) ∙ ap (λ t. ds ++ 46 ∷ t) (sym parts) ∙ sym (append_assoc ds (46 ∷ fs) rest))
    ]

number_split : (ds r : List ℕ) → AreDigits ds → NumberSplit ds (ds ++ r) (fraction_of r)
number_split ds [] a = whole_split ds [] a
number_split ds (c ∷ cs) a = point_split (c == 46) ds c cs refl a

abbrev SuffixSplit : List ℕ → Result ℕ QuantityError → Type 0
SuffixSplit cs r = (r ≡ Err BadText) ⊎ ((x : Suffix) × IsSuffix x × (cs ≡ suffix_text x))

numeral_some : (ds : List ℕ) → is_numeral ds ≡ true → 0 < length ds
numeral_some [] e = cc
numeral_some (d ∷ ds) e = omega arith

exponent_step : (b upper : Bool) (c : ℕ) (cs : List ℕ) (r : Result ℕ QuantityError) → is_numeral (sign_of cs).1 ≡ b → c ≡ exponent_letter upper → SuffixSplit (c ∷ cs) (if b then r else Err BadText)
exponent_step false upper c cs r e f = inl refl
exponent_step true upper c cs r e f =
    let sign = sign_split cs in
    let ds = (sign_of cs).1 in
    inr (Exponent upper sign.0 ds, (AreDigits-from_numeral ds (is_numeral ds) refl e, numeral_some ds e), ap (λ n. n ∷ cs) f ∙ ap (λ t. exponent_letter upper ∷ t) sign.1)

scientific_step : (lower upper : Bool) (c : ℕ) (cs : List ℕ) → (c == 101) ≡ lower → (c == 69) ≡ upper → SuffixSplit (c ∷ cs) (if lower then exponent_factor cs else (if upper then exponent_factor cs else Err BadText))
scientific_step true upper c cs e f = exponent_step (is_numeral (sign_of cs).1) false c cs _ refl (eqb-true c 101 e)
scientific_step false true c cs e f = exponent_step (is_numeral (sign_of cs).1) true c cs _ refl (eqb-true c 69 f)
scientific_step false false c cs e f = inl refl

scientific_split : (c : ℕ) (cs : List ℕ) → SuffixSplit (c ∷ cs) (scientific_factor c cs)
scientific_split c cs = scientific_step (c == 101) (c == 69) c cs refl refl

binary_split : (b : Bool) (c d : ℕ) → (d == 105) ≡ b → SuffixSplit (c ∷ d ∷ []) (if b then factor_in binary_factors c else scientific_factor c (d ∷ []))
binary_split false c d e = scientific_split c (d ∷ [])
binary_split true c d e = elim (in_table binary_factors c) [ inl bad ↦ inl bad | inr good ↦ inr (Binary c good.0, good.1, ap (λ n. c ∷ n ∷ []) (eqb-true d 105 e)) ]

suffix_split : (cs : List ℕ) → SuffixSplit cs (suffix_factor cs)
suffix_split [] = inr (Bare, tt, refl)
suffix_split (c ∷ []) = elim (in_table decimal_factors c) [ inl bad ↦ inl bad | inr good ↦ inr (Decimal c good.0, good.1, refl) ]
suffix_split (c ∷ d ∷ []) = binary_split (d == 105) c d refl
suffix_split (c ∷ d ∷ e ∷ es) = scientific_split c (d ∷ e ∷ es)

either_bad : (b : Bool) (r : Result ℕ QuantityError) → r ≡ Err BadText → (if b then Err BadText else r) ≡ Err BadText
either_bad true r e = refl
either_bad false r e = e

magnitude_split : (cs : List ℕ) → (magnitude_value cs ≡ Err BadText) ⊎ ((n : Number) × (x : Suffix) × IsNumber n × IsSuffix x × (cs ≡ number_text n ++ suffix_text x))
magnitude_split cs =
    let ds = (digits_of cs).0 in
    let r = (digits_of cs).1 in
    let parts : ds ++ r ≡ cs = take-append-drop (prefix_len is_ascii_digit cs) cs in
    elim (number_split ds r (AreDigits-front cs)) [
      | inl none ↦ inl (rw (eq-eqb _ _ none) refl)
      | inr number ↦ elim (suffix_split (fraction_of r).1) [
        | inl bad ↦ inl (either_bad (length ds + length (fraction_of r).0 == 0) (magnitude_times ds (fraction_of r).0 (suffix_factor (fraction_of r).1)) (ap (magnitude_times ds (fraction_of r).0) bad))
        | inr suffix ↦ inr (number.0, suffix.0, number.1, suffix.1, sym parts ∙ number.2 ∙ ap (λ t. number_text number.0 ++ t) suffix.2)
      ]
    ]

either_bad_signed : (b : Bool) (r : Result ℤ QuantityError) → r ≡ Err BadText → (if b then Err BadText else r) ≡ Err BadText
either_bad_signed true r e = refl
either_bad_signed false r e = e

pub other_bad : (cs : List ℕ) → (IsSpelled cs → ⊥) → quantity_value cs ≡ Err BadText
unfolding quantity_value
other_bad cs h =
    let sign = sign_split cs in
    elim (magnitude_split (sign_of cs).1) [
      | inl bad ↦ either_bad_signed (nat_lt 64 (length cs)) (with_sign (sign_of cs).0 (magnitude_value (sign_of cs).1)) (ap (with_sign (sign_of cs).0) bad)
      | inr good ↦ absurd (h (sign.0, good.0, good.1, good.2, good.3, sign.1 ∙ ap (λ t. sign_text sign.0 ++ t) good.4))
    ]

pub long_bad : (cs : List ℕ) → 64 < length cs → quantity_value cs ≡ Err BadText
unfolding quantity_value
long_bad cs h =
    let long : nat_lt 64 (length cs) ≡ true = grind (arith, nat_tests) in
    rw long refl
