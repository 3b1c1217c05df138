-- The value of a text, from those of its parts.
use Rattle.std.proofs.Common.{◌≡◌, ℕ, ◌≤◌, Bool, false, List, length, arith, ap, ◌∙◌, refl}
use Rattle.std.specs.Prelude.{Result, Ok, Err, nat_lt}
use Rattle.std.proofs.lemmas.Bool.Decides.{nat_tests}
use Rattle.quantity.specs.Value.{quantity_value, magnitude_value, with_sign, signed, sign_of}
use Rattle.quantity.specs.declared.error.QuantityError.{QuantityError}

pub value_is : (cs rest : List ℕ) (negative : Bool) (r : Result ℕ QuantityError) → length cs ≤ 64 → (negative, rest) ≡ sign_of cs → r ≡ magnitude_value rest → quantity_value cs ≡ with_sign negative r
unfolding quantity_value
value_is cs rest negative r short e f =
    let fits : nat_lt 64 (length cs) ≡ false = grind (arith, nat_tests) in
    rw (fits, ← e, f) refl

pub value_err : (cs rest : List ℕ) (negative : Bool) (r : Result ℕ QuantityError) (e : QuantityError) → length cs ≤ 64 → (negative, rest) ≡ sign_of cs → r ≡ magnitude_value rest → r ≡ Err e → quantity_value cs ≡ Err e
value_err cs rest negative r e short s m g = value_is cs rest negative r short s m ∙ ap (with_sign negative) g

pub value_ok : (cs rest : List ℕ) (negative : Bool) (r : Result ℕ QuantityError) (n : ℕ) → length cs ≤ 64 → (negative, rest) ≡ sign_of cs → r ≡ magnitude_value rest → r ≡ Ok n → quantity_value cs ≡ Ok (signed negative n)
value_ok cs rest negative r n short s m g = value_is cs rest negative r short s m ∙ ap (with_sign negative) g
