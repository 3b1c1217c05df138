-- The result of reading a text as a signed number.
use Rattle.std.proofs.Common.{◌≡◌, ℕ, ◌<◌, ◌≤◌, ◌==◌, ◌^◌, nat_lt, Bool, true, false, ◌&&◌, ℤ, pos, List, [], ◌∷◌, length, Option, Some, None, Result, Ok, Err, refl, sym, ◌∙◌, ap, arith, inl, inr, w64, if◌then◌else◌}
use Rattle.std.specs.Prelude.{neg_ℤ, nat_le, option_and_then}
use Rattle.std.specs.Result.{OkIff, result_ok}
use Rattle.std.specs.Str.{all_ascii_digits}
use Rattle.std.specs.Str.Parse.{ParsesSigned, digits_value}
use Rattle.std.proofs.lemmas.Bool.{and_from, and_parts, cases_Bool, eqb-false, eqb-true, leb-true, le-leb, lt-ltb, ltb-true}
use Rattle.std.proofs.lemmas.Str.Parse.{IsNumeralModel, numerals_by_value, parse_signed_minus, parse_signed_plain, parse_signed_plus, tells_all_ascii_digits}
use Rattle.node_select.specs.Numbers.{negative, number_of, positive, whole_of}

if_true : {A : Type 0} (v : Bool) (x y : A) → v ≡ true → (if v then x else y) ≡ x
if_true true x y h = refl
if_true false x y h = cc

if_false : {A : Type 0} (v : Bool) (x y : A) → v ≡ false → (if v then x else y) ≡ y
if_false true x y h = cc
if_false false x y h = refl

own : IsNumeralModel (λ ds. all_ascii_digits ds ≡ true) (digits_value 10)
own = numerals_by_value (λ ds. all_ascii_digits ds ≡ true) tells_all_ascii_digits

number_some : (bs : List ℕ) → all_ascii_digits bs ≡ true → 0 < length bs → number_of bs ≡ Some (digits_value 10 bs)
number_some bs digits long =
    if_true (nat_lt 0 (length bs) && all_ascii_digits bs) (Some (digits_value 10 bs)) None (and_from _ _ (lt-ltb _ _ long) digits)

number_none : (bs : List ℕ) → (nat_lt 0 (length bs) && all_ascii_digits bs) ≡ false → number_of bs ≡ None
number_none bs h = if_false (nat_lt 0 (length bs) && all_ascii_digits bs) (Some (digits_value 10 bs)) None h

-- a reading of digits, which fits if a test of their number holds
abbrev pub Reads : {E : Type 0} → Result ℤ E → List ℕ → Type 0 → ℤ → Type 0
Reads r bs Small z = OkIff r ((all_ascii_digits bs ≡ true) × (0 < length bs) × Small) z

read_is : {E : Type 0} (bs : List ℕ) (r : Result ℤ E) (Small : Type 0) (z : ℤ) (small : Bool) (limit : ℕ → Option ℤ) →
    (Small → small ≡ true) → (small ≡ true → Small) → (small ≡ true → limit (digits_value 10 bs) ≡ Some z) → (small ≡ false → limit (digits_value 10 bs) ≡ None) →
    Reads r bs Small z → result_ok r ≡ option_and_then limit (number_of bs)
read_is bs (Ok x) Small z small limit to from some none h =
    ap Some h.1 ∙ sym (ap (option_and_then limit) (number_some bs h.0.0 h.0.1) ∙ some (to h.0.2))
read_is bs (Err e) Small z small limit to from some none h =
    elim (cases_Bool (nat_lt 0 (length bs) && all_ascii_digits bs)) as (λ _. None ≡ option_and_then limit (number_of bs)) [
      | inl is ↦ elim (cases_Bool small) as (λ _. None ≡ option_and_then limit (number_of bs)) [
        | inl fits ↦ absurd (h ((and_parts _ _ is).1, ltb-true _ _ (and_parts _ _ is).0, from fits))
        | inr over ↦ sym (ap (option_and_then limit) (number_some bs (and_parts _ _ is).1 (ltb-true _ _ (and_parts _ _ is).0)) ∙ none over)
      ]
      | inr not ↦ sym (ap (option_and_then limit) (number_none bs not))
    ]

plain_is : {E : Type 0} (bs : List ℕ) (r : Result ℤ E) → Reads r bs (digits_value 10 bs < 2 ^ 63) (pos (digits_value 10 bs)) → result_ok r ≡ option_and_then positive (number_of bs)
plain_is bs r h =
    read_is bs r (digits_value 10 bs < 2 ^ 63) (pos (digits_value 10 bs)) (nat_lt (digits_value 10 bs) (2 ^ 63)) positive
    (lt-ltb _ _) (ltb-true _ _)
    (if_true (nat_lt (digits_value 10 bs) (2 ^ 63)) (Some (pos (digits_value 10 bs))) None)
    (if_false (nat_lt (digits_value 10 bs) (2 ^ 63)) (Some (pos (digits_value 10 bs))) None) h

minus_is : {E : Type 0} (bs : List ℕ) (r : Result ℤ E) → Reads r bs (digits_value 10 bs ≤ 2 ^ 63) (neg_ℤ (pos (digits_value 10 bs))) → result_ok r ≡ option_and_then negative (number_of bs)
minus_is bs r h =
    read_is bs r (digits_value 10 bs ≤ 2 ^ 63) (neg_ℤ (pos (digits_value 10 bs))) (nat_le (digits_value 10 bs) (2 ^ 63)) negative
    (le-leb _ _) (leb-true _ _)
    (if_true (nat_le (digits_value 10 bs) (2 ^ 63)) (Some (neg_ℤ (pos (digits_value 10 bs)))) None)
    (if_false (nat_le (digits_value 10 bs) (2 ^ 63)) (Some (neg_ℤ (pos (digits_value 10 bs)))) None) h

pub whole_is : {E : Type 0} (bs : List ℕ) (r : Result ℤ E) → ParsesSigned w64 10 bs r → result_ok r ≡ whole_of bs
whole_is {E} [] r h = plain_is [] r (parse_signed_plain own {E = E} w64 [] r h (λ e. omega (arith, e)) (λ e. omega (arith, e)))
whole_is {E} (b ∷ bs) r h =
    (elim (b == 45) as (λ v. (b == 45) ≡ v →
    result_ok r ≡ (if v then option_and_then negative (number_of bs) else (if b == 43 then option_and_then positive (number_of bs) else option_and_then positive (number_of (b ∷ bs))))) [
      | true ↦ λ minus. minus_is bs r (parse_signed_minus own {E = E} w64 (b ∷ bs) r h (eqb-true b 45 minus))
      | false ↦ λ no_minus.
          (elim (b == 43) as (λ v. (b == 43) ≡ v →
          result_ok r ≡ (if v then option_and_then positive (number_of bs) else option_and_then positive (number_of (b ∷ bs)))) [
            | true ↦ λ plus. plain_is bs r (parse_signed_plus own {E = E} w64 (b ∷ bs) r h (eqb-true b 43 plus))
            | false ↦ λ no_plus.
                plain_is (b ∷ bs) r (parse_signed_plain own {E = E} w64 (b ∷ bs) r h (eqb-false b 43 no_plus) (eqb-false b 45 no_minus))
          ]) refl
    ]) refl
