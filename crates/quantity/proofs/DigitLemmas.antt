-- Digits and what follows them.
use Rattle.std.proofs.Common.{◌≡◌, ℕ, ◌<◌, ◌≤◌, true, false, List, [], ◌∷◌, ◌++◌, length, refl, sym, ap, ◌∙◌, arith}
use Rattle.std.specs.Prelude.{◌==◌}
use Rattle.std.specs.List.{prefix_len}
use Rattle.std.specs.Char.{is_ascii_digit}
use Rattle.std.proofs.lemmas.List.{append-nil}
use Rattle.std.proofs.lemmas.Bool.Decides.{nat_tests}
use Rattle.std.proofs.Math.Seq.{take-append_seam, drop-append_seam}
use Rattle.quantity.specs.Value.{sign_of, digits_of, AreDigits}

pub digit_is : (c : ℕ) → 48 ≤ c → c < 58 → is_ascii_digit c ≡ true
digit_is c low high = grind (arith, nat_tests)

front_len : (ds rest : List ℕ) → AreDigits ds → prefix_len is_ascii_digit rest ≡ 0 → prefix_len is_ascii_digit (ds ++ rest) ≡ length ds
front_len [] rest a e = e
front_len (d ∷ ds) rest a e = rw (digit_is d a.0 a.1) (omega (arith, front_len ds rest a.2 e))

pub digits_of-append : (ds rest : List ℕ) → AreDigits ds → prefix_len is_ascii_digit rest ≡ 0 → digits_of (ds ++ rest) ≡ (ds, rest)
digits_of-append ds rest a e = rw (front_len ds rest a e, take-append_seam ds rest, drop-append_seam ds rest) refl

pub digits_of-all : (ds : List ℕ) → AreDigits ds → digits_of ds ≡ (ds, [])
digits_of-all ds a = ap digits_of (sym (append-nil ds)) ∙ digits_of-append ds [] a refl

pub sign_of-digit : (d : ℕ) (cs : List ℕ) → 48 ≤ d → sign_of (d ∷ cs) ≡ (false, d ∷ cs)
sign_of-digit d cs low =
    let minus : (d == 45) ≡ false = grind (arith, nat_tests) in
    let plus : (d == 43) ≡ false = grind (arith, nat_tests) in
    rw (minus, plus) refl

pub sign_of-digits : (ds rest : List ℕ) → AreDigits ds → 0 < length ds → sign_of (ds ++ rest) ≡ (false, ds ++ rest)
sign_of-digits [] rest a h = absurd (omega (arith, h))
sign_of-digits (d ∷ ds) rest a h = sign_of-digit d (ds ++ rest) a.0
