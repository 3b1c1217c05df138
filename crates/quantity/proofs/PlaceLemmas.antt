-- The decimal places, one at a time.
use Rattle.std.proofs.Common.{◌≡◌, ℕ, zero, suc, ◌+◌, ◌*◌, ◌/◌, ◌%◌, ◌^◌, [], ◌∷◌, refl, ap, ◌∙◌, arith, ne_eqb}
use Rattle.std.proofs.Math.Nat.{pow-suc}
use Rattle.quantity.specs.Printed.{places_text}

pub places_text-none : (k : ℕ) → places_text k 0 ≡ []
unfolding places_text
places_text-none zero = refl
places_text-none (suc k) = refl

pub places_text-zero : (n : ℕ) → places_text zero n ≡ []
unfolding places_text
places_text-zero n = refl

pub places_text-some : (k n : ℕ) → (n ≡ 0 → ⊥) → places_text (suc k) n ≡ (48 + n / 10 ^ k) ∷ places_text k (n % 10 ^ k)
unfolding places_text
places_text-some k n some = rw (ne_eqb _ _ some)

pub places_text-last : (k n place : ℕ) → place ≡ 10 ^ k → (n ≡ 0 → ⊥) → n % place ≡ 0 → places_text (suc k) n ≡ (48 + n / place) ∷ []
places_text-last k n place e some none =
    let h : n % 10 ^ k ≡ 0 = rw e at none in
    rw e (places_text-some k n some ∙ ap (λ t. (48 + n / 10 ^ k) ∷ t) (ap (places_text k) h ∙ places_text-none k))

-- where something is left, a decimal place is left for it
pub places_text-more : (k n place : ℕ) → place ≡ 10 ^ k → (n ≡ 0 → ⊥) → (n % place ≡ 0 → ⊥)
    → (j : ℕ) × (place ≡ 10 * 10 ^ j) × (places_text (suc k) n ≡ (48 + n / place) ∷ places_text (suc j) (n % place))
places_text-more zero n place e some more = absurd (more (rw e (omega arith)))
places_text-more (suc j) n place e some more = (j, e ∙ omega (arith, pow-suc 10 j), rw e (places_text-some (suc j) n some))
