-- Whole numbers of 64 bits in 128 bits: nothing is lost on the way, nor by one product or quotient.
use Rattle.std.proofs.Common.{◌≡◌, ℕ, zero, suc, ◌/◌, ◌^◌, ◌≤◌, ℤ, pos, negsuc, neg_ℤ, ◌*ℤ◌, int_div, unsigned_abs, FitsSigned, to_z, of_z, w64, false, refl, ap, ◌∙◌, arith, rules}
use Rattle.std.proofs.Math.Facts.{sfits_widen}
use Rattle.std.proofs.Math.Nat.{div-le_self}
use Rattle.std.proofs.lemmas.Int.{to_z-of_z, fits_signed_mul, fits_signed_from_abs}
use Rattle.std.specs.Int.{w128}
use Rattle.std.specs.Ordering.{int_eq}

abbrev pub in_128 : ℤ → ℤ
in_128 z = to_z w128 (of_z w128 (to_z w64 (of_z w64 z)))

pub wide : (z : ℤ) → FitsSigned w64 z → in_128 z ≡ z
wide z f = ap (λ x. to_z w128 (of_z w128 x)) (to_z-of_z w64 z f) ∙ to_z-of_z w128 z (sfits_widen tt f)

abs_below : (z : ℤ) → FitsSigned w64 z → unsigned_abs z ≤ 2 ^ 63
abs_below (pos n) f = omega (arith, f.sfits)
abs_below (negsuc n) f = omega (arith, f.sfits)

pub wide_product : (x y : ℤ) → FitsSigned w64 x → FitsSigned w64 y → to_z w128 (of_z w128 (in_128 x *ℤ in_128 y)) ≡ x *ℤ y
wide_product x y f g =
    (λ i. to_z w128 (of_z w128 (wide x f i *ℤ wide y g i)))
    ∙ to_z-of_z w128 (x *ℤ y) (fits_signed_mul w128 x y (2 ^ 63) (2 ^ 63) (abs_below x f) (abs_below y g) (omega arith))

abs_neg : (n : ℕ) → unsigned_abs (neg_ℤ (pos n)) ≡ n
abs_neg zero = refl
abs_neg (suc n) = refl

quotient_below : (x y : ℤ) → unsigned_abs (int_div x y) ≤ unsigned_abs x
quotient_below (pos a) (pos b) = div-le_self a b
quotient_below (pos a) (negsuc b) = rw (abs_neg (a / suc b)) (div-le_self a (suc b))
quotient_below (negsuc a) (pos b) = rw (abs_neg (suc a / b)) (div-le_self (suc a) b)
quotient_below (negsuc a) (negsuc b) = div-le_self (suc a) (suc b)

pub wide_quotient : (x y : ℤ) → FitsSigned w64 x → FitsSigned w64 y → to_z w128 (of_z w128 (int_div (in_128 x) (in_128 y))) ≡ int_div x y
wide_quotient x y f g =
    (λ i. to_z w128 (of_z w128 (int_div (wide x f i) (wide y g i))))
    ∙ to_z-of_z w128 (int_div x y) (fits_signed_from_abs w128 (int_div x y) (omega (arith, quotient_below x y, abs_below x f)))

pub not_zero : (z : ℤ) → (of_z w64 z ≡ 0 → ⊥) → int_eq z (pos 0) ≡ false
not_zero (pos zero) f = absurd (f refl)
not_zero (pos (suc n)) f = search rules
not_zero (negsuc n) f = refl
