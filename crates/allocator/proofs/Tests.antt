-- Tests into facts and back.
use Rattle.std.proofs.Common.{ℕ, ◌≡◌, Bool, true, false, ◌&&◌, eqb, refl, arith}
use Rattle.std.proofs.lemmas.Bool.Decides.{nat_tests}

pub left_of : (a b : Bool) → (a && b) ≡ true → a ≡ true
left_of true b e = refl
left_of false b e = e

pub right_of : (a b : Bool) → (a && b) ≡ true → b ≡ true
right_of true b e = e
right_of false b e = absurd (cc)

pub both_false : (a : Bool) → (a && false) ≡ false
both_false true = refl
both_false false = refl

pub same_number : (m n : ℕ) → m ≡ n → eqb m n ≡ true
same_number m n e = grind (arith, nat_tests, e)

pub number_is : (m n : ℕ) → eqb m n ≡ true → m ≡ n
number_is m n e = grind (arith, nat_tests, e)

pub numbers_differ : (m n : ℕ) (b : Bool) → eqb m n ≡ b → (m ≡ n → ⊥) → b ≡ false
numbers_differ m n true e h = absurd (h (number_is m n e))
numbers_differ m n false e h = refl
