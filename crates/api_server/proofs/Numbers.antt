-- The connections of workers whose shares were all served are those from 1 on, each once.
use Rattle.std.proofs.Common.{ℕ, zero, suc, ◌≡◌, ◌∙◌, ◌+◌, ◌*◌, ◌/◌, ◌%◌, ◌≤◌, ◌<◌, ◌++◌, ◌⊎◌, inl, inr, List, [], ◌∷◌, Bool, true, false, cond, eqb, length, refl, sym, ap, subst, arith, eq-eqb, eqb-true, ⊎_elim}
use Rattle.std.proofs.Math.Nat.{add-mod_right, div-add-mod, mod-eq_of_lt, mod-le, mod-lt, mul-le-mul_left, mul-suc}
use Rattle.std.proofs.lemmas.Bool.{cases_lt, cases_order}
use Rattle.turn_lock.specs.Places.{times}

-- ---- how often a number occurs

pub count_cases : (n x : ℕ) (xs : List ℕ) → ((n ≡ x) × (times n (x ∷ xs) ≡ 1 + times n xs)) ⊎ ((n ≡ x → ⊥) × (times n (x ∷ xs) ≡ times n xs))
count_cases n x xs = pick (eqb n x) refl
  where
    pick : (b : Bool) → eqb n x ≡ b → ((n ≡ x) × (times n (x ∷ xs) ≡ 1 + times n xs)) ⊎ ((n ≡ x → ⊥) × (times n (x ∷ xs) ≡ times n xs))
    pick true t = inl (eqb-true n x t, ap (λ (c : Bool). cond {A = ℕ} c 1 0 + times n xs) t)
    pick false t = inr (
      λ e. let one : cond {A = ℕ} (eqb n x) 1 0 ≡ 1 = ap (λ (c : Bool). cond {A = ℕ} c 1 0) (eq-eqb n x e) in let none : cond {A = ℕ} (eqb n x) 1 0 ≡ 0 = ap (λ (c : Bool). cond {A = ℕ} c 1 0) t in absurd (omega arith),
      (let c : cond {A = ℕ} (eqb n x) 1 0 + times n xs ≡ 0 + times n xs = ap (λ (d : Bool). cond {A = ℕ} d 1 0 + times n xs) t in omega arith),
    )

times_both : (k : ℕ) (xs ys : List ℕ) → times k (xs ++ ys) ≡ times k xs + times k ys
times_both k [] ys = omega arith
times_both k (x ∷ xs) ys = let r = times_both k xs ys in omega arith

-- how often the numbers from 1 on occur together
abbrev total : ℕ → List ℕ → ℕ
total zero xs = 0
total (suc l) xs = times (suc l) xs + total l xs

total_none : (l : ℕ) → total l [] ≡ 0
total_none zero = refl
total_none (suc l) = let r = total_none l in omega arith

total_above : (l x : ℕ) → l < x → total l (x ∷ []) ≡ 0
total_above zero x lt = refl
total_above (suc l) x lt =
    let r = total_above l x (omega arith) in
    ⊎_elim {C = total (suc l) (x ∷ []) ≡ 0}
    (λ p. absurd (let e = p.0 in omega arith))
    (λ q. let c = q.1 in omega arith)
    (count_cases (suc l) x [])

total_one : (l x : ℕ) → 0 < x → x ≤ l → total l (x ∷ []) ≡ 1
total_one zero x pos le = absurd (omega arith)
total_one (suc l) x pos le =
    ⊎_elim {C = total (suc l) (x ∷ []) ≡ 1}
    (λ p. let e = p.0 in let c = p.1 in let r = total_above l x (omega arith) in omega arith)
    (λ q. let c = q.1 in ⊎_elim {C = total (suc l) (x ∷ []) ≡ 1} (λ lt. let r = total_one l x pos (omega arith) in omega arith) (λ ge. absurd (q.0 (omega arith))) (cases_lt x (suc l)))
    (count_cases (suc l) x [])

total_more : (l x : ℕ) (xs : List ℕ) → total l (x ∷ xs) ≡ total l (x ∷ []) + total l xs
total_more zero x xs = refl
total_more (suc l) x xs = let r = total_more l x xs in omega arith

abbrev Within : ℕ → List ℕ → Type 0
Within l xs = (m : ℕ) → 0 < times m xs → (0 < m) × (m ≤ l)

first_there : (x : ℕ) (xs : List ℕ) → 0 < times x (x ∷ xs)
first_there x xs = ⊎_elim {C = 0 < times x (x ∷ xs)} (λ p. let c = p.1 in omega arith) (λ q. absurd (q.0 refl)) (count_cases x x xs)

more_there : (m x : ℕ) (xs : List ℕ) → 0 < times m xs → 0 < times m (x ∷ xs)
more_there m x xs lt = omega (arith, lt)

total_length : (l : ℕ) (xs : List ℕ) → Within l xs → total l xs ≡ length xs
total_length l [] in_ = total_none l
total_length l (x ∷ xs) in_ =
    let w = in_ x (first_there x xs) in
    let one = total_one l x w.0 w.1 in
    let rest = total_length l xs (λ m lt. in_ m (more_there m x xs lt)) in
    let all = total_more l x xs in
    omega arith

total_last : (l : ℕ) (xs : List ℕ) → ((m : ℕ) → 0 < m → m ≤ l → times m xs ≡ 1) → total l xs ≡ l
total_last zero xs each = refl
total_last (suc l) xs each =
    let one = each (suc l) (omega arith) (omega arith) in
    let rest = total_last l xs (λ m pos le. each m pos (omega arith)) in
    omega arith

pub count_all : (l : ℕ) (xs : List ℕ) → Within l xs → ((m : ℕ) → 0 < m → m ≤ l → times m xs ≡ 1) → length xs ≡ l
count_all l xs in_ each = sym (total_length l xs in_) ∙ total_last l xs each

-- ---- the numbers of one share

-- the numbers b + 1, b + 1 + n and so on, up to last
abbrev pub AreSteps : ℕ → ℕ → ℕ → List ℕ → Type 0
AreSteps b n last [] = Unit {0}
AreSteps b n last (x ∷ xs) = (b < last) × (x ≡ b + 1) × AreSteps (b + n) n last xs

-- one less than the number after these
abbrev pub after : ℕ → ℕ → List ℕ → ℕ
after b n [] = b
after b n (x ∷ xs) = after (b + n) n xs

low : (b n last : ℕ) (xs : List ℕ) (m : ℕ) → AreSteps b n last xs → m ≤ b → times m xs ≡ 0
low b n last [] m st le = refl
low b n last (x ∷ xs) m st le =
    ⊎_elim {C = times m (x ∷ xs) ≡ 0}
    (λ p. absurd (let e = p.0 in let x_is = st.1 in omega (arith, le)))
    (λ q. q.1 ∙ low (b + n) n last xs m st.2 (omega (arith, le)))
    (count_cases m x xs)

top : (b n last : ℕ) (xs : List ℕ) (m : ℕ) → AreSteps b n last xs → 0 < times m xs → m ≤ last
top b n last [] m st lt = absurd (omega (arith, lt))
top b n last (x ∷ xs) m st lt =
    ⊎_elim {C = m ≤ last}
    (λ p. let e = p.0 in let x_is = st.1 in let below = st.0 in omega arith)
    (λ q. let c = q.1 in top (b + n) n last xs m st.2 (omega (arith, lt)))
    (count_cases m x xs)

mod_of : (b n last : ℕ) (xs : List ℕ) (y : ℕ) → AreSteps b n last xs → 0 < times (y + 1) xs → y % n ≡ b % n
mod_of b n last [] y st lt = absurd (omega (arith, lt))
mod_of b n last (x ∷ xs) y st lt =
    ⊎_elim {C = y % n ≡ b % n}
    (λ p. let same : y ≡ b = (let e = p.0 in let x_is = st.1 in omega arith) in ap (λ (z : ℕ). z % n) same)
    (λ q. let more : 0 < times (y + 1) xs = (let c = q.1 in omega (arith, lt)) in mod_of (b + n) n last xs y st.2 more ∙ add-mod_right b n)
    (count_cases (y + 1) x xs)

once : (b n last : ℕ) (xs : List ℕ) (m : ℕ) → AreSteps b n last xs → 0 < n → times m xs ≤ 1
once b n last [] m st pos = omega arith
once b n last (x ∷ xs) m st pos =
    ⊎_elim {C = times m (x ∷ xs) ≤ 1}
    (λ p. let e = p.0 in let x_is = st.1 in let c = p.1 in let none = low (b + n) n last xs m st.2 (omega (arith, pos)) in omega arith)
    (λ q. let c = q.1 in let r = once (b + n) n last xs m st.2 pos in omega arith)
    (count_cases m x xs)

-- the next number with the same remainder
step_up : (x y n : ℕ) → x < y → x % n ≡ y % n → x + n ≤ y
step_up x y n lt same =
    let xq = div-add-mod x n in
    let yq = div-add-mod y n in
    ⊎_elim {C = x + n ≤ y}
    (λ less. let k : n * suc (x / n) ≤ n * (y / n) = mul-le-mul_left n (omega arith) in let s = mul-suc n (x / n) in omega arith)
    (λ more. let k : n * (y / n) ≤ n * (x / n) = mul-le-mul_left n more in absurd (omega arith))
    (cases_lt (x / n) (y / n))

all_steps : (b n last : ℕ) (xs : List ℕ) (y : ℕ) → AreSteps b n last xs → 0 < n → last ≤ after b n xs → b ≤ y → y < last → y % n ≡ b % n → times (y + 1) xs ≡ 1
all_steps b n last [] y st pos over le most same = absurd (omega arith)
all_steps b n last (x ∷ xs) y st pos over le most same =
    let x_is = st.1 in
    ⊎_elim {C = times (y + 1) (x ∷ xs) ≡ 1}
    (λ p. let e = p.0 in let c = p.1 in let none = low (b + n) n last xs (y + 1) st.2 (omega arith) in omega arith)
    (λ q.
    let c = q.1 in
    ⊎_elim {C = times (y + 1) (x ∷ xs) ≡ 1}
    (λ past. c ∙ all_steps (b + n) n last xs y st.2 pos over (step_up b y n past (sym same)) most (same ∙ sym (add-mod_right b n)))
    (λ here. absurd (q.0 (omega arith)))
    (cases_lt b y))
    (count_cases (y + 1) x xs)

-- ---- the numbers of all shares

abbrev pub AllSteps : ℕ → ℕ → ℕ → List (List ℕ) → Type 0
AllSteps i n last [] = Unit {0}
AllSteps i n last (l ∷ ls) = AreSteps i n last l × AllSteps (i + 1) n last ls

abbrev pub AllOver : ℕ → ℕ → ℕ → List (List ℕ) → Type 0
AllOver i n last [] = Unit {0}
AllOver i n last (l ∷ ls) = (last ≤ after i n l) × AllOver (i + 1) n last ls

abbrev pub flat : List (List ℕ) → List ℕ
flat [] = []
flat (l ∷ ls) = l ++ flat ls

-- a number of one share is in no other
lane_other : (i n last : ℕ) (xs : List ℕ) (y : ℕ) → AreSteps i n last xs → i < n → (y % n ≡ i → ⊥) → times (y + 1) xs ≡ 0
lane_other i n last xs y st lt other =
    ⊎_elim {C = times (y + 1) xs ≡ 0}
    (λ some. absurd (other (mod_of i n last xs y st some ∙ mod-eq_of_lt lt)))
    (λ none. omega arith)
    (cases_lt 0 (times (y + 1) xs))

later_none : (i n last : ℕ) (ls : List (List ℕ)) (y : ℕ) → AllSteps i n last ls → i + length ls ≤ n → y % n < i → times (y + 1) (flat ls) ≡ 0
later_none i n last [] y st le below = refl
later_none i n last (l ∷ ls) y st le below =
    let first = lane_other i n last l y st.0 (omega arith) (λ e. absurd (omega arith)) in
    let rest = later_none (i + 1) n last ls y st.1 (omega arith) (omega arith) in
    times_both (y + 1) l (flat ls) ∙ (omega arith)

pub lanes_once : (i n last : ℕ) (ls : List (List ℕ)) (y : ℕ) → AllSteps i n last ls → i + length ls ≤ n → times (y + 1) (flat ls) ≤ 1
lanes_once i n last [] y st le = omega arith
lanes_once i n last (l ∷ ls) y st le =
    let both = times_both (y + 1) l (flat ls) in
    ⊎_elim {C = times (y + 1) (l ++ flat ls) ≤ 1}
    (λ some.
    let at : y % n ≡ i = mod_of i n last l y st.0 some ∙ mod-eq_of_lt (omega arith) in
    let rest = later_none (i + 1) n last ls y st.1 (omega arith) (omega arith) in
    let one = once i n last l (y + 1) st.0 (omega arith) in
    omega arith)
    (λ none. let rest = lanes_once (i + 1) n last ls y st.1 (omega arith) in omega arith)
    (cases_lt 0 (times (y + 1) l))

lanes_all : (i n last : ℕ) (ls : List (List ℕ)) (y : ℕ) → AllSteps i n last ls → AllOver i n last ls → i + length ls ≤ n → i ≤ y % n → y % n < i + length ls → y < last → times (y + 1) (flat ls) ≡ 1
lanes_all i n last [] y st over le low_ high most = absurd (omega arith)
lanes_all i n last (l ∷ ls) y st over le low_ high most =
    let both = times_both (y + 1) l (flat ls) in
    ⊎_elim {C = times (y + 1) (l ++ flat ls) ≡ 1}
    (λ past.
    let first = lane_other i n last l y st.0 (omega arith) (λ e. absurd (omega arith)) in
    let rest = lanes_all (i + 1) n last ls y st.1 over.1 (omega arith) (omega arith) (omega arith) most in
    omega arith)
    (λ here.
    let at : y % n ≡ i = omega arith in
    let small = mod-le y n in
    let one = all_steps i n last l y st.0 (omega arith) over.0 (omega arith) most (at ∙ sym (mod-eq_of_lt (omega arith))) in
    let rest = later_none (i + 1) n last ls y st.1 (omega arith) (omega arith) in
    omega arith)
    (cases_lt i (y % n))

lanes_top : (i n last : ℕ) (ls : List (List ℕ)) (m : ℕ) → AllSteps i n last ls → 0 < times m (flat ls) → (0 < m) × (m ≤ last)
lanes_top i n last [] m st lt = absurd (omega (arith, lt))
lanes_top i n last (l ∷ ls) m st lt =
    let both = times_both m l (flat ls) in
    ⊎_elim {C = (0 < m) × (m ≤ last)}
    (λ some. (
      ⊎_elim {C = 0 < m} (λ pos. pos) (λ small. absurd (let none = low i n last l m st.0 (omega arith) in omega arith)) (cases_lt 0 m),
      top i n last l m st.0 some,
    ))
    (λ none. lanes_top (i + 1) n last ls m st.1 (omega arith))
    (cases_lt 0 (times m l))

-- no number occurs twice
pub apart_all : (n last : ℕ) (ls : List (List ℕ)) (m : ℕ) → AllSteps 0 n last ls → length ls ≤ n → times m (flat ls) ≤ 1
apart_all n last ls zero st le =
    ⊎_elim {C = times 0 (flat ls) ≤ 1}
    (λ some. absurd (let t = (lanes_top 0 n last ls 0 st some).0 in omega arith))
    (λ none. omega arith)
    (cases_lt 0 (times 0 (flat ls)))
apart_all n last ls (suc y) st le = let e : y + 1 ≡ suc y = omega arith in subst (λ (m : ℕ). times m (flat ls) ≤ 1) e (lanes_once 0 n last ls y st (omega arith))

-- each from 1 to the last occurs once, and so many are there
pub each_once : (n last : ℕ) (ls : List (List ℕ)) (m : ℕ) → AllSteps 0 n last ls → AllOver 0 n last ls → length ls ≡ n → 0 < n → 0 < m → m ≤ last → times m (flat ls) ≡ 1
each_once n last ls zero st over le pos some most = absurd (omega arith)
each_once n last ls (suc y) st over le pos some most =
    let small = mod-lt y pos in
    let e : y + 1 ≡ suc y = omega arith in
    subst (λ (m : ℕ). times m (flat ls) ≡ 1) e (lanes_all 0 n last ls y st over (omega arith) (omega arith) (omega arith) (omega arith))

pub so_many : (n last : ℕ) (ls : List (List ℕ)) → AllSteps 0 n last ls → AllOver 0 n last ls → length ls ≡ n → 0 < n → length (flat ls) ≡ last
so_many n last ls st over le pos = count_all last (flat ls) (λ m lt. lanes_top 0 n last ls m st lt) (λ m some most. each_once n last ls m st over le pos some most)
