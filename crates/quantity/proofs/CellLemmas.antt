use Rattle.std.proofs.Common.{◌≡◌, ℕ, suc, ◌+◌, ◌-◌, ◌*◌, ◌/◌, ◌^◌, ◌<◌, ◌≤◌, List, [], ◌∷◌, ◌++◌, length, refl, arith, sym, ◌∙◌, ap, take, drop, get_or, zero, ◌==◌}
use Rattle.std.specs.List.{list_all}
use Rattle.std.proofs.lemmas.Bool.Decides.{nat_tests}
use Rattle.std.proofs.Math.Nat.{pow-succ', pow-suc, add-mul, mul_assoc, mul_comm, mul-le-mul_left}
use Rattle.std.proofs.lemmas.List.{drop_more, drop_all, take_all, append-nil}
use Rattle.quantity.specs.Cells.{value_of, AreCells, scaled}
use Rattle.quantity.specs.Value.{digits_value, AreDigits}

-- with room for the last carry, the digits represent the product
pub value_of-scaled : (f c : ℕ) (xs : List ℕ) → value_of xs * f + c < 10 ^ length xs → value_of (scaled f c xs) ≡ value_of xs * f + c
value_of-scaled f c [] h = omega arith
value_of-scaled f c (x ∷ xs) h =
    let e1 : 10 ^ suc (length xs) ≡ 10 * 10 ^ length xs = pow-succ' 10 (length xs) in
    let e2 : (x + 10 * value_of xs) * f ≡ x * f + 10 * value_of xs * f = add-mul x (10 * value_of xs) f in
    let e3 : 10 * value_of xs * f ≡ 10 * (value_of xs * f) = mul_assoc 10 (value_of xs) f in
    let ih = value_of-scaled f ((x * f + c) / 10) xs (omega arith) in
    omega (arith, ih)

pub AreCells-scaled : (f c : ℕ) (xs : List ℕ) → AreCells (scaled f c xs)
AreCells-scaled f c [] = tt
AreCells-scaled f c (x ∷ xs) = (omega arith, AreCells-scaled f ((x * f + c) / 10) xs)

-- what is left of the digits is one digit less
pub push_step : (v t i : ℕ) (ds : List ℕ) → i < length ds → v * 10 ^ length (drop i ds) + digits_value (drop i ds) ≡ t → (v * 10 + (get_or ds i 0 - 48)) * 10 ^ length (drop (i + 1) ds) + digits_value (drop (i + 1) ds) ≡ t
push_step v t i ds h e =
    let d = get_or ds i 0 - 48 in
    let n = length (drop (i + 1) ds) in
    let before : v * 10 ^ suc n + (d * 10 ^ n + digits_value (drop (i + 1) ds)) ≡ t = rw (drop_more ds i 0 h) at e in
    let e1 : 10 ^ suc n ≡ 10 * 10 ^ n = pow-succ' 10 n in
    let e2 : v * (10 * 10 ^ n) ≡ v * 10 * 10 ^ n = sym (mul_assoc v 10 (10 ^ n)) in
    let e3 : (v * 10 + d) * 10 ^ n ≡ v * 10 * 10 ^ n + d * 10 ^ n = add-mul (v * 10) d (10 ^ n) in
    let e4 : v * 10 ^ suc n ≡ v * 10 * 10 ^ n = ap (λ x. v * x) e1 ∙ e2 in
    omega arith

pub room_step : (v d n all : ℕ) → d < 10 → (v + 1) * 10 ^ suc n ≤ all → (v * 10 + d + 1) * 10 ^ n ≤ all
room_step v d n all h r =
    let e1 : (v + 1) * 10 ^ suc n ≡ (v + 1) * 10 * 10 ^ n = ap (λ x. (v + 1) * x) (pow-succ' 10 n) ∙ sym (mul_assoc (v + 1) 10 (10 ^ n)) in
    let m : 10 ^ n * (v * 10 + d + 1) ≤ 10 ^ n * ((v + 1) * 10) = mul-le-mul_left (10 ^ n) (omega arith) in
    let e2 : 10 ^ n * (v * 10 + d + 1) ≡ (v * 10 + d + 1) * 10 ^ n = mul_comm (10 ^ n) (v * 10 + d + 1) in
    let e3 : 10 ^ n * ((v + 1) * 10) ≡ (v + 1) * 10 * 10 ^ n = mul_comm (10 ^ n) ((v + 1) * 10) in
    omega arith

pub whole_scaled : (cells all : List ℕ) (f carry i : ℕ) → length cells ≤ i → take i cells ++ scaled f carry (drop i cells) ≡ all → cells ≡ all
whole_scaled cells all f carry i h e = simp (take_all i cells h, drop_all i cells h, append-nil) at e

pub length-drop_more : (i : ℕ) (ds : List ℕ) → i < length ds → length (drop i ds) ≡ suc (length (drop (i + 1) ds))
length-drop_more i ds h = ap length (drop_more ds i 0 h)

pub AreDigits-at : (i : ℕ) (ds : List ℕ) → i < length ds → AreDigits (drop i ds) → (48 ≤ get_or ds i 0) × (get_or ds i 0 < 58) × AreDigits (drop (i + 1) ds)
AreDigits-at i ds h a = rw (drop_more ds i 0 h) at a

pub one_le_pow : (n : ℕ) → 1 ≤ 10 ^ n
one_le_pow zero = omega arith
one_le_pow (suc n) = omega (arith, one_le_pow n, pow-succ' 10 n)

pub fits_step : (v d n m : ℕ) {all : ℕ} → d < 10 → m ≡ suc n → (v + 1) * 10 ^ m ≤ all → v * 10 + d < all
fits_step v d n m {all} h e r =
    let r' : (v + 1) * 10 ^ suc n ≤ all = rw e at r in
    let s : (v * 10 + d + 1) * 10 ^ n ≤ all = room_step v d n all h r' in
    let p : (v * 10 + d + 1) * 1 ≤ (v * 10 + d + 1) * 10 ^ n = mul-le-mul_left (v * 10 + d + 1) (one_le_pow n) in
    omega arith

pub room_next : (v d n m w l k : ℕ) → d < 10 → m ≡ suc n → w ≡ v * 10 + d → k ≡ l → (v + 1) * 10 ^ m ≤ 10 ^ l → (w + 1) * 10 ^ n ≤ 10 ^ k
room_next v d n m w l k h e f g r = rw (f, g) (room_step v d n (10 ^ l) h (rw e at r))

-- a number over its last cell
pub value_of-drop : (i : ℕ) (cs : List ℕ) → i < length cs → value_of (drop i cs) ≡ get_or cs i 0 + 10 * value_of (drop (i + 1) cs)
value_of-drop i cs h = ap value_of (drop_more cs i 0 h)

-- what is dropped makes the number no greater
pub value_of-drop-le : (i : ℕ) (cs : List ℕ) → value_of (drop i cs) ≤ value_of cs
value_of-drop-le zero cs = omega arith
value_of-drop-le (suc i) [] = omega arith
value_of-drop-le (suc i) (c ∷ cs) = omega (arith, value_of-drop-le i cs)

-- cells in two parts
pub value_of-split : (i : ℕ) (cs : List ℕ) → i ≤ length cs → value_of cs ≡ value_of (take i cs) + value_of (drop i cs) * 10 ^ i
value_of-split zero cs h = omega arith
value_of-split (suc i) [] h = absurd (omega arith)
value_of-split (suc i) (c ∷ cs) h =
    let ih = value_of-split i cs (omega arith) in
    let e : value_of (drop i cs) * 10 ^ suc i ≡ 10 * (value_of (drop i cs) * 10 ^ i) = ap (λ x. value_of (drop i cs) * x) (pow-suc 10 i) ∙ sym (mul_assoc (value_of (drop i cs)) (10 ^ i) 10) ∙ mul_comm (value_of (drop i cs) * 10 ^ i) 10 in
    omega arith

-- digits are below their power
pub digits_value-lt : (ds : List ℕ) → AreDigits ds → digits_value ds < 10 ^ length ds
digits_value-lt [] a = omega arith
digits_value-lt (d ∷ ds) a =
    let p = one_le_pow (length ds) in
    let m : 10 ^ length ds * (d - 48) ≤ 10 ^ length ds * 9 = mul-le-mul_left (10 ^ length ds) (omega (arith, a.0, a.1)) in
    let e = mul_comm (10 ^ length ds) (d - 48) in
    omega (arith, pow-succ' 10 (length ds), digits_value-lt ds a.2, mul_comm (10 ^ length ds) 9)

-- a cell times the factor, with the carry, leaves a carry that is at most the factor
pub carry_le : (x f c : ℕ) → x < 10 → c ≤ f → x * f + c ≤ 10 * f
carry_le x f c h g =
    let m : f * x ≤ f * 9 = mul-le-mul_left f (omega arith) in
    omega (arith, m, mul_comm f x, mul_comm f 9)

-- the whole is 0 if and only if each cell is
pub zero_cells : (cs : List ℕ) → list_all (λ c. c == 0) cs ≡ (value_of cs == 0)
zero_cells [] = refl
zero_cells (zero ∷ cs) = let ih = zero_cells cs in grind (arith, nat_tests)
zero_cells (suc c ∷ cs) = grind (arith, nat_tests)
