-- A fraction prints as a whole part of 0 and its decimal places, which are the rest without the first byte.
use Rattle.std.specs.Fmt.{digits}
use Rattle.std.proofs.Common.{ℕ, List, [], refl, ◌∷◌, ◌++◌, ◌≡◌, ◌≢◌, ◌∙◌, ◌<◌, ◌+◌, Bor, Option, None, Some, drop, length, ap, sym, arith}
use Rattle.std.specs.Prelude.{MatchOption, ◌%◌, ◌^◌, decimal}
use Rattle.std.specs.Str.Pattern.{FindsCharPrefix}
use Rattle.std.proofs.lemmas.Str.Pattern.{strip_prefix_char}
use Rattle.std.proofs.Math.Nat.{div-eq_of_lt, mod-eq_of_lt}
use Rattle.quantity.specs.Printed.{fraction_text, magnitude_text}

zero_is : decimal 0 ≡ 48 ∷ []
unfolding digits
zero_is = refl

pub fraction_is : (n : ℕ) → n < 10 ^ 9 → magnitude_text n ≡ 48 ∷ fraction_text n
unfolding magnitude_text
fraction_is n less =
    ap (λ q. decimal q ++ fraction_text (n % 10 ^ 9)) (div-eq_of_lt less)
    ∙ ap (λ (w : List ℕ). w ++ fraction_text (n % 10 ^ 9)) zero_is
    ∙ ap (λ r. 48 ∷ fraction_text r) (mod-eq_of_lt less)

left : (n : ℕ) (bs : List ℕ) (r : Option (Bor (List ℕ))) → bs ≡ 48 ∷ fraction_text n → MatchOption r ((rest : List ℕ) → bs ≢ 48 ∷ rest) (λ x. bs ≡ 48 ∷ x.now) → MatchOption r ⊥ (λ x. x.now ≡ fraction_text n)
left n bs None is none = none (fraction_text n) is
left n bs (Some x) is some = ap (λ (l : List ℕ). drop 1 l) (sym some ∙ is)

-- what the text of a fraction is without its first byte, which is 0
pub stripped : (n : ℕ) (bs : List ℕ) (r : Option (Bor (List ℕ))) → n < 10 ^ 9 → bs ≡ magnitude_text n
    → MatchOption r (FindsCharPrefix 48 bs None) (λ x. (m : ℕ) × FindsCharPrefix 48 bs (Some m) × (x.now ≡ drop m bs) × (length x.now + m ≡ length bs)) → MatchOption r ⊥ (λ x. x.now ≡ fraction_text n)
stripped n bs r less is cases = left n bs r (is ∙ fraction_is n less) (strip_prefix_char 48 bs r cases (omega arith))
