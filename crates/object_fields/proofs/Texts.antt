-- Where a text is cut, and the number that one represents.
use Rattle.std.proofs.Common.{◌≡◌, ℕ, ◌<◌, ◌==◌, ◌^◌, nat_lt, true, ◌&&◌, List, [], ◌∷◌, length, Option, Some, None, Result, Ok, Err, refl, sym, ◌∙◌, ap, arith, rules, Bor, inl, inr}
use Rattle.std.specs.List.{after_first, before_first, position_or_len}
use Rattle.std.specs.Result.{result_ok}
use Rattle.std.specs.Str.Parse.{ParsesUnsigned, digits_value}
use Rattle.std.proofs.lemmas.Bool.{and_from, and_parts, and_right, cases_Bool, lt-ltb, ltb-true}
use Rattle.std.proofs.lemmas.Str.Parse.{IsDigitsTest, IsNumeralModel, numerals_by_value, parse_digits}
use Rattle.std.proofs.lemmas.Str.Pattern.{IsSplitOnceResult, split_once_first}
use Rattle.object_fields.proofs.Scan.{if_false, if_true}
use Rattle.object_fields.specs.Meta.{are_digits, is_digit, is_plain_decimal, version_of}
use Rattle.object_fields.specs.Qualified.{cut_at}

-- ---- cuts

pub cut_found : (bs : List ℕ) (r : Option (Bor (List ℕ) × Bor (List ℕ))) (x y : Bor (List ℕ)) → r ≡ Some (x, y) → IsSplitOnceResult 47 bs r → cut_at 47 bs ≡ Some (x.now, y.now)
cut_found bs r x y e h =
    let f = rw e at (split_once_first 47 bs r h (omega arith)) in
    if_true (nat_lt (position_or_len (λ b. b == 47) bs) (length bs)) (Some (before_first (λ b. b == 47) bs, after_first (λ b. b == 47) bs)) None (lt-ltb _ _ f.0)
    ∙ cc (f.1, f.2)

pub cut_missing : (bs : List ℕ) (r : Option (Bor (List ℕ) × Bor (List ℕ))) → r ≡ None → IsSplitOnceResult 47 bs r → cut_at 47 bs ≡ None
cut_missing bs r e h =
    let f = rw e at (split_once_first 47 bs r h (omega arith)) in
    if_false (nat_lt (position_or_len (λ b. b == 47) bs) (length bs)) (Some (before_first (λ b. b == 47) bs, after_first (λ b. b == 47) bs)) None (grind (arith, f))

-- ---- numbers

tells : IsDigitsTest (λ ds. are_digits ds ≡ true)
tells = search rules

own : IsNumeralModel (λ ds. are_digits ds ≡ true) (digits_value 10)
own = numerals_by_value (λ ds. are_digits ds ≡ true) tells

plain_digits : (bs : List ℕ) → is_plain_decimal bs ≡ true → are_digits bs ≡ true
plain_digits [] h = cc
plain_digits (b ∷ []) h = and_from (is_digit b) true h refl
plain_digits (b ∷ c ∷ bs) h = (and_parts _ _ h).1

plain_long : (bs : List ℕ) → is_plain_decimal bs ≡ true → 0 < length bs
plain_long [] h = cc
plain_long (b ∷ bs) h = omega arith

pub version_is : {E : Type 0} (bs : List ℕ) (r : Result ℕ E) → ParsesUnsigned 64 10 bs r → is_plain_decimal bs ≡ true → result_ok r ≡ version_of bs
version_is {E} bs (Ok n) h plain =
    let f = parse_digits own {E = E} 64 bs (Ok n) h (plain_digits bs plain) in
    ap Some f.1 ∙ sym (if_true (is_plain_decimal bs && nat_lt (digits_value 10 bs) (2 ^ 64)) (Some (digits_value 10 bs)) None (and_from _ _ plain (lt-ltb _ _ f.0.1)))
version_is {E} bs (Err e) h plain =
    let f = parse_digits own {E = E} 64 bs (Err e) h (plain_digits bs plain) in
    elim (cases_Bool (nat_lt (digits_value 10 bs) (2 ^ 64))) as (λ _. None ≡ version_of bs) [
      | inl is ↦ absurd (f (plain_long bs plain, ltb-true _ _ is))
      | inr is ↦ sym (if_false (is_plain_decimal bs && nat_lt (digits_value 10 bs) (2 ^ 64)) (Some (digits_value 10 bs)) None (and_right _ _ is))
    ]
