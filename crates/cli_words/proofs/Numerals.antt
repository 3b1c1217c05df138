-- What the number of an argument is.
use Rattle.std.proofs.Common.{ℕ, ◌<◌, ◌^◌, List, ◌≡◌, ◌∙◌, Bool, true, false, cond, length, Ok, Err, Result, refl, sym, arith, rules, inl, inr}
use Rattle.std.specs.Prelude.{◌&&◌, None, Some, nat_le}
use Rattle.std.specs.List.{list_all}
use Rattle.std.specs.Char.{is_ascii_digit}
use Rattle.std.specs.Str.Parse.{ParsesUnsigned, digits_value}
use Rattle.std.proofs.lemmas.Bool.{and_parts, and_right, cases_Bool}
use Rattle.std.proofs.lemmas.Str.Parse.{IsDigitsTest, IsNumeralModel, numerals_by_value, parse_digits}
use Rattle.cli_words.specs.Words.{in_range, is_number, number_in}

tells : IsDigitsTest (λ ds. list_all is_ascii_digit ds ≡ true)
tells = search rules

own : IsNumeralModel (λ ds. list_all is_ascii_digit ds ≡ true) (digits_value 10)
own = numerals_by_value (λ ds. list_all is_ascii_digit ds ≡ true) tells

ltb_some : (word : List ℕ) → nat_le 1 (length word) ≡ true → 0 < length word
ltb_some word e = grind (arith, e)

below : (n most : ℕ) → nat_le n most ≡ true → most < 2 ^ 64 → n < 2 ^ 64
below n most e small = grind (arith, e, small)

if_false : {X : Type 0} (b : Bool) (x y : X) → b ≡ false → cond b x y ≡ y
if_false true x y e = absurd (cc)
if_false false x y e = refl

if_true : {X : Type 0} (b : Bool) (x y : X) → b ≡ true → cond b x y ≡ x
if_true true x y e = refl
if_true false x y e = absurd (cc)

-- an argument that isn't read is a number that is too large
pub number_unread : {E : Type 0} (word : List ℕ) (r : Result ℕ E) (e : E) (digits least most : ℕ) → r ≡ Err e → ParsesUnsigned 64 10 word r → is_number digits word ≡ true → most < 2 ^ 64 → None ≡ number_in digits least most word
number_unread {E} word (Ok n) e digits least most is read number small = absurd (cc)
number_unread {E} word (Err x) e digits least most is read number small =
    let long = ltb_some word (and_parts _ _ number).0 in
    let f = parse_digits own {E = E} 64 word (Err x) read (and_parts _ _ (and_parts _ _ number).1).1 in
    elim (cases_Bool (nat_le (digits_value 10 word) most)) as (λ _. None ≡ number_in digits least most word) [
      | inl le ↦ absurd (f (long, below (digits_value 10 word) most le small))
      | inr over ↦
          sym (if_true (is_number digits word) (in_range least most (digits_value 10 word)) None number
          ∙ if_false (nat_le least (digits_value 10 word) && nat_le (digits_value 10 word) most) (Some (digits_value 10 word)) None (and_right _ _ over))
    ]
