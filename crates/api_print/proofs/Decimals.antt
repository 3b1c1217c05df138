-- Versions in decimal digits read as their numbers.
use Rattle.std.proofs.Common.{◌≡◌, ℕ, zero, suc, ◌<◌, ◌≤◌, ◌==◌, ◌^◌, nat_lt, Bool, true, false, not, ◌&&◌, List, [], ◌∷◌, length, get_or, Some, None, Ok, refl, ◌∙◌, ap, arith, rules, inl, inr}
use Rattle.std.specs.Prelude.{decimal, if◌then◌else◌}
use Rattle.std.specs.Str.Parse.{digits_value}
use Rattle.std.proofs.lemmas.Bool.{and_from, and_parts, cases_Bool, lt-ltb, ltb-true}
use Rattle.std.proofs.lemmas.Bool.Decides.{nat_tests}
use Rattle.std.proofs.lemmas.Fmt.{decimal_digit, decimal_is_IsNumeral, decimal_nonempty, digits_decimal, first_decimal}
use Rattle.std.proofs.lemmas.Str.Parse.{IsDigitsTest, IsNumeralModel, numerals_by_value}
use Rattle.object_fields.specs.Meta.{are_digits, is_digit, is_plain_decimal, version_of, version_text}
use Rattle.object_fields.specs.declared.path.Step.{Step}

tells : IsDigitsTest (λ ds. are_digits ds ≡ true)
tells = search rules

own : IsNumeralModel (λ ds. are_digits ds ≡ true) (digits_value 10)
own = numerals_by_value (λ ds. are_digits ds ≡ true) tells

pub chosen : {A : Type 0} (b : Bool) (x y : A) → b ≡ true → (if b then x else y) ≡ x
chosen true x y h = refl
chosen false x y h = cc

pub not_longer : (m n : ℕ) → n ≤ m → nat_lt m n ≡ false
not_longer m n h = elim (cases_Bool (nat_lt m n)) as (λ _. nat_lt m n ≡ false) [
  | inl is ↦ absurd (omega (arith, ltb-true _ _ is))
  | inr is ↦ is
]

not_zero : (b : ℕ) → 48 < b → not (b == 48) ≡ true
not_zero b h = grind (arith, nat_tests)

plain_by : (ds : List ℕ) → are_digits ds ≡ true → 48 < get_or ds 0 0 → is_plain_decimal ds ≡ true
plain_by [] d h = absurd (omega arith)
plain_by (b ∷ []) d h = (and_parts (is_digit b) true d).0
plain_by (b ∷ c ∷ bs) d h = and_from (not (b == 48)) (are_digits (b ∷ c ∷ bs)) (not_zero b h) d

plain_decimal : (n : ℕ) → n < 2 ^ 64 → is_plain_decimal (decimal n) ≡ true
plain_decimal zero h = rw (decimal_digit 0 (omega arith)) refl
plain_decimal (suc n) h = plain_by (decimal (suc n)) (digits_decimal own (suc n) h) (first_decimal (suc n) (omega arith) h)

decimal_version : (n : ℕ) → n < 2 ^ 64 → version_of (decimal n) ≡ Some n
decimal_version n h =
    let value : digits_value 10 (decimal n) ≡ n = (decimal_is_IsNumeral n h).1 in
    let small : nat_lt (digits_value 10 (decimal n)) (2 ^ 64) ≡ true = rw value (lt-ltb _ _ h) in
    chosen (is_plain_decimal (decimal n) && nat_lt (digits_value 10 (decimal n)) (2 ^ 64)) (Some (digits_value 10 (decimal n))) None (and_from _ _ (plain_decimal n h) small) ∙ ap Some value

text_read : (path : List Step) (ds : List ℕ) (n : ℕ) → 0 < length ds → version_of ds ≡ Some n → version_text path ds ≡ Ok (Some n)
text_read path [] n p h = absurd (omega arith)
text_read path (d ∷ ds) n p h = rw h refl

-- the text of a version reads as the version
pub version_read : (path : List Step) (n : ℕ) → n < 2 ^ 64 → version_text path (decimal n) ≡ Ok (Some n)
version_read path n h = text_read path (decimal n) n (decimal_nonempty n h) (decimal_version n h)
