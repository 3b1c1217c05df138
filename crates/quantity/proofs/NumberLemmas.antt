use Rattle.std.proofs.Common.{◌≡◌, ℕ, suc, ◌+◌, ◌-◌, ◌*◌, ◌/◌, ◌%◌, ◌^◌, ◌<◌, ◌≤◌, Bool, true, false, List, length, arith, sym, ◌∙◌, ap, zero, refl, subst, [], ◌∷◌, take, drop, cond, pow-add, ◌++◌, length-append, lit<, eq-eqb, ne_eqb}
use Rattle.std.specs.List.{list_all, prefix_len}
use Rattle.std.specs.Char.{is_ascii_digit}
use Rattle.std.proofs.lemmas.Bool.Decides.{nat_tests}
use Rattle.quantity.specs.declared.error.QuantityError.{QuantityError}
use Rattle.quantity.specs.declared.error.QuantityError.TheVariants.{TooPrecise}
use Rattle.std.proofs.lemmas.List.{length-take-le}
use Rattle.std.specs.Prelude.{Result, Err, ◌==◌}
use Rattle.std.proofs.Math.Nat.{add-mul, pow-succ', mul_assoc, mul_comm, mul-le-mul_left, pow-le-pow_right, add-mul-div_right, add-mul-mod_self_right, mod-eq_of_lt, div-eq_of_lt}
use Rattle.quantity.specs.Cells.{value_of, AreCells}
use Rattle.quantity.specs.Value.{digits_value, magnitude_of, up_to_most, is_numeral, AreDigits}
use Rattle.quantity.proofs.CellLemmas.{value_of-split, one_le_pow, zero_cells}

-- a rest below the divisor is the remainder
pub rest_is : (a b p : ℕ) → a < p → (a + b * p) % p ≡ a
rest_is a b p h = add-mul-mod_self_right a b p ∙ mod-eq_of_lt h

pub whole_is : (a b p : ℕ) → a < p → (a + b * p) / p ≡ b
whole_is a b p h = add-mul-div_right a b (omega arith) ∙ ap (λ n. n + b) (div-eq_of_lt h) ∙ omega arith

-- the part of the cells below i is below their power
value_of-lt : (cs : List ℕ) → AreCells cs → value_of cs < 10 ^ length cs
value_of-lt [] a = omega arith
value_of-lt (c ∷ cs) a = omega (arith, pow-succ' 10 (length cs), value_of-lt cs a.1, a.0)

AreCells-take : (i : ℕ) (cs : List ℕ) → AreCells cs → AreCells (take i cs)
AreCells-take zero cs a = tt
AreCells-take (suc i) [] a = tt
AreCells-take (suc i) (c ∷ cs) a = (a.0, AreCells-take i cs a.1)

pub AreCells-drop : (i : ℕ) (cs : List ℕ) → AreCells cs → AreCells (drop i cs)
AreCells-drop zero cs a = a
AreCells-drop (suc i) [] a = tt
AreCells-drop (suc i) (c ∷ cs) a = AreCells-drop i cs a.1

below_lt : (i : ℕ) (cs : List ℕ) → i ≤ length cs → AreCells cs → value_of (take i cs) < 10 ^ i
below_lt i cs h a = subst (λ (n : ℕ). value_of (take i cs) < 10 ^ n) (length-take-le i cs h) (value_of-lt (take i cs) (AreCells-take i cs a))

pub below_is : (i : ℕ) (cs : List ℕ) → i ≤ length cs → AreCells cs → value_of cs % 10 ^ i ≡ value_of (take i cs)
below_is i cs h a = ap (λ n. n % 10 ^ i) (value_of-split i cs h) ∙ rest_is (value_of (take i cs)) (value_of (drop i cs)) (10 ^ i) (below_lt i cs h a)

pub above_is : (i : ℕ) (cs : List ℕ) → i ≤ length cs → AreCells cs → value_of cs / 10 ^ i ≡ value_of (drop i cs)
above_is i cs h a = ap (λ n. n / 10 ^ i) (value_of-split i cs h) ∙ whole_is (value_of (take i cs)) (value_of (drop i cs)) (10 ^ i) (below_lt i cs h a)

-- digits and digits behind them
pub digits_value-append : (xs ys : List ℕ) → digits_value (xs ++ ys) ≡ digits_value xs * 10 ^ length ys + digits_value ys
digits_value-append [] ys = omega arith
digits_value-append (x ∷ xs) ys =
    let e1 : 10 ^ length (xs ++ ys) ≡ 10 ^ length xs * 10 ^ length ys = ap (λ n. 10 ^ n) (length-append xs ys) ∙ pow-add 10 (length xs) (length ys) in
    let e2 : (x - 48) * 10 ^ length (xs ++ ys) ≡ (x - 48) * 10 ^ length xs * 10 ^ length ys = ap (λ n. (x - 48) * n) e1 ∙ sym (mul_assoc (x - 48) (10 ^ length xs) (10 ^ length ys)) in
    let e3 = add-mul ((x - 48) * 10 ^ length xs) (digits_value xs) (10 ^ length ys) in
    omega (arith, e2, e3, digits_value-append xs ys)

pub AreDigits-append : (xs ys : List ℕ) → AreDigits xs → AreDigits ys → AreDigits (xs ++ ys)
AreDigits-append [] ys a b = b
AreDigits-append (x ∷ xs) ys a b = (a.0, a.1, AreDigits-append xs ys a.2 b)

-- there is room for more digits
pub room_for : (v n m l : ℕ) → v < 10 ^ n → n + m ≤ l → (v + 1) * 10 ^ m ≤ 10 ^ l
room_for v n m l h fits =
    let q : 10 ^ m * (v + 1) ≤ 10 ^ m * 10 ^ n = mul-le-mul_left (10 ^ m) (omega (arith, h)) in
    let e1 = mul_comm (10 ^ m) (v + 1) in
    let e2 : 10 ^ m * 10 ^ n ≡ 10 ^ (m + n) = sym (pow-add 10 m n) in
    let p : 10 ^ (m + n) ≤ 10 ^ l = pow-le-pow_right (lit< tt) (omega (arith, fits)) in
    omega (arith, p, q, e1, e2)

-- and for a factor
pub room_scaled : (v n f : ℕ) → v < 10 ^ n → n ≤ 64 → f ≤ 1152921504606846976000000000 → v * f + 0 < 10 ^ 92
room_scaled v n f h short small =
    let p : 10 ^ n ≤ 10 ^ 64 = pow-le-pow_right (lit< tt) short in
    let q : v * f ≤ v * 1152921504606846976000000000 = mul-le-mul_left v small in
    omega (arith, p, q, h)

pub both_pushed : (xs ys : List ℕ) (v w : ℕ) → v ≡ digits_value xs → w ≡ v * 10 ^ length ys + digits_value ys → w ≡ digits_value (xs ++ ys)
both_pushed xs ys v w e f = f ∙ ap (λ n. n * 10 ^ length ys + digits_value ys) e ∙ sym (digits_value-append xs ys)

-- the first cells are the remainder, and the others are the whole
pub fine : (n places : ℕ) (cells below : List ℕ) → AreCells cells → places ≤ length cells → value_of cells ≡ n → below ≡ take places cells → list_all (λ c. c == 0) below ≡ false → n % 10 ^ places ≡ 0 → ⊥
fine n places cells below a h e f g k =
    let z : (value_of (take places cells) == 0) ≡ false = sym (zero_cells (take places cells)) ∙ ap (λ cs. list_all (λ c. c == 0) cs) (sym f) ∙ g in
    let r : value_of (take places cells) ≡ 0 = sym (below_is places cells h a) ∙ ap (λ m. m % 10 ^ places) e ∙ k in
    grind (arith, nat_tests)

pub coarse : (n places : ℕ) (cells below : List ℕ) → AreCells cells → places ≤ length cells → value_of cells ≡ n → below ≡ take places cells → list_all (λ c. c == 0) below ≡ true → n % 10 ^ places ≡ 0
coarse n places cells below a h e f g =
    let z : (value_of (take places cells) == 0) ≡ true = sym (zero_cells (take places cells)) ∙ ap (λ cs. list_all (λ c. c == 0) cs) (sym f) ∙ g in
    let r : value_of (take places cells) ≡ 0 = grind (arith, nat_tests) in
    ap (λ m. m % 10 ^ places) (sym e) ∙ below_is places cells h a ∙ r

pub fine_is : (n places : ℕ) → (n % 10 ^ places ≡ 0 → ⊥) → ◌≡◌ {A = Result ℕ QuantityError} (Err TooPrecise) (magnitude_of n places)
fine_is n places h = rw (ne_eqb _ _ h)

pub coarse_is : (n places : ℕ) (cells above : List ℕ) (r : Result ℕ QuantityError) → AreCells cells → places ≤ length cells → value_of cells ≡ n → above ≡ drop places cells → n % 10 ^ places ≡ 0 → r ≡ up_to_most (value_of above) → r ≡ magnitude_of n places
coarse_is n places cells above r a h e f z g =
    let w : value_of above ≡ n / 10 ^ places = ap value_of f ∙ sym (above_is places cells h a) ∙ ap (λ m. m / 10 ^ places) e in
    g ∙ ap up_to_most w ∙ rw (eq-eqb _ _ z)

is_digit : (c : ℕ) → is_ascii_digit c ≡ true → (48 ≤ c) × (c < 58)
is_digit c e = (grind (arith, nat_tests), grind (arith, nat_tests))

-- the leading digits are digits
AreDigits-step : (b : Bool) (c n : ℕ) (cs : List ℕ) → is_ascii_digit c ≡ b → AreDigits (take n cs) → AreDigits (take (cond b (1 + n) 0) (c ∷ cs))
AreDigits-step false c n cs e a = tt
AreDigits-step true c n cs e a =
    let more : 1 + n ≡ suc n = omega arith in
    let digit = is_digit c e in
    rw more (digit.0, digit.1, a)

pub AreDigits-front : (cs : List ℕ) → AreDigits (take (prefix_len is_ascii_digit cs) cs)
AreDigits-front [] = tt
AreDigits-front (c ∷ cs) = AreDigits-step (is_ascii_digit c) c (prefix_len is_ascii_digit cs) cs refl (AreDigits-front cs)

pub AreDigits-from_all : (ds : List ℕ) → list_all is_ascii_digit ds ≡ true → AreDigits ds
AreDigits-from_all [] e = tt
AreDigits-from_all (d ∷ ds) e =
    let digit = is_digit d (grind arith) in
    (digit.0, digit.1, AreDigits-from_all ds (grind arith))

pub AreDigits-from_numeral : (ds : List ℕ) (b : Bool) → b ≡ is_numeral ds → b ≡ true → AreDigits ds
AreDigits-from_numeral ds b e f = AreDigits-from_all ds (grind arith)

-- what a numeral begins with is no more than it
pub at_least : (w n r t : ℕ) → w * 10 ^ n + r ≡ t → w ≤ t
at_least w n r t e =
    let p : w * 1 ≤ w * 10 ^ n = mul-le-mul_left w (one_le_pow n) in
    omega (arith, e, p)
