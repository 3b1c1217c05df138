-- How many slots a claim has.
use Rattle.std.proofs.Common.{ℕ, zero, suc, ◌+◌, ◌<◌, ◌≤◌, ◌≡◌, ◌⊎◌, List, [], ◌∷◌, ◌++◌, Bool, true, false, ◌||◌, cond, eqb, ltb, Option, None, Some, map, length, refl, sym, ap, ◌∙◌, subst, inl, inr, ⊎_elim, arith}
use Rattle.std.specs.List.{list_any, slice_get}
use Rattle.std.proofs.lemmas.List.Sums.{sum_by-append, sum_by-cons}
use Rattle.std.specs.Prelude.{option_map}
use Rattle.std.proofs.lemmas.Bool.Decides.{nat_tests}
use borrow.Author.Tests.{eqb-true}
use Rattle.walk.specs.Lists.{numbers}
use Rattle.object_fields.specs.declared.key.Key.{Key}
use Rattle.api_claim.specs.declared.types.DeviceAsk.{DeviceAsk}
use Rattle.api_claim.specs.declared.types.AllocationMode.{AllocationMode}
use Rattle.api_claim.specs.declared.types.AllocationMode.TheVariants.{ExactCount, All}
use Rattle.api_claim.specs.declared.types.DeviceRequest.{DeviceRequest}
use Rattle.api_claim.specs.declared.types.DeviceSubRequest.{DeviceSubRequest}
use Rattle.api_claim.specs.declared.types.RequestKind.{RequestKind}
use Rattle.api_claim.specs.declared.types.RequestKind.TheVariants.{Exactly, FirstAvailable}
use Rattle.api_claim.specs.declared.types.ResourceClaim.{ResourceClaim}
use Rattle.request_rules.specs.Input.{SearchInput}
use Rattle.request_rules.specs.Asked.{Asked, Seat, Next, Due, Slot, Wish, asked_by, asked_from, asked_sub, matching, repeated, seats, seats_by, seats_counted, slots_for, slots_of, wishes_from}
use Rattle.request_rules.specs.Lists.{add_some}
use Rattle.request_rules.specs.Problem.{due_to}
use Rattle.request_rows.specs.Chosen.{count_by}
use Rattle.request_rules.specs.Ways.{wishes_in}
use Rattle.request_rows.proofs.Lists.{map_length}

-- ---- how many

repeated_length : (n : ℕ) (s : Seat) → length (repeated n s) ≡ n
repeated_length zero s = refl
repeated_length (suc n) s = let e = repeated_length n s in omega (arith, e)

counted_length : (n : ℕ) → length (seats_counted n) ≡ n
counted_length zero = refl
counted_length (suc n) = let e = repeated_length n Next in omega (arith, e)

count_mode : (w : SearchInput) (a : DeviceAsk) (m : AllocationMode) → count_by (matching w a) m ≡ length (seats_by w a m)
count_mode w a (ExactCount n) = sym (counted_length n)
count_mode w a All = sym (map_length (λ x. Due x) (matching w a))

pub count_is : (w : SearchInput) (a : DeviceAsk) → count_by (matching w a) a.mode ≡ length (seats w a)
unfolding seats
count_is w a = count_mode w a a.mode

due_with_seats : (a : Asked) (i : ℕ) (ss : List Seat) (b : Bool) → eqb a.label.claim i ≡ b → due_to (map (λ s. record { asked = a; seat = s }) ss) i ≡ cond b (length ss) 0
due_with_seats a i [] true e = refl
due_with_seats a i [] false e = refl
due_with_seats a i (s ∷ ss) true e =
    let r = due_with_seats a i ss true e in
    let f = sum_by-cons (λ (z : Slot). cond (eqb z.asked.label.claim i) 1 0) (record { asked = a; seat = s }) (map (λ s. record { asked = a; seat = s }) ss) in
    let g : cond {A = ℕ} (eqb a.label.claim i) 1 0 ≡ cond {A = ℕ} true 1 0 = ap (λ (t : Bool). cond {A = ℕ} t 1 0) e in
    omega (arith, r, f, g)
due_with_seats a i (s ∷ ss) false e =
    let r = due_with_seats a i ss false e in
    let f = sum_by-cons (λ (z : Slot). cond (eqb z.asked.label.claim i) 1 0) (record { asked = a; seat = s }) (map (λ s. record { asked = a; seat = s }) ss) in
    let g : cond {A = ℕ} (eqb a.label.claim i) 1 0 ≡ cond {A = ℕ} false 1 0 = ap (λ (t : Bool). cond {A = ℕ} t 1 0) e in
    omega (arith, r, f, g)

due_more : (w : SearchInput) (a : Asked) (l : List Asked) (i : ℕ) → due_to (slots_for w (a ∷ l)) i ≡ cond (eqb a.label.claim i) (length (seats w a.ask)) 0 + due_to (slots_for w l) i
due_more w a l i =
    let e = sum_by-append (λ (z : Slot). cond (eqb z.asked.label.claim i) 1 0) (slots_of w a) (slots_for w l) in
    let f = due_with_seats a i (seats w a.ask) (eqb a.label.claim i) refl in
    omega (arith, e, f)

-- ---- claim by claim

-- `total` if the claim is this one
abbrev extra : ℕ → ℕ → ℕ → ℕ
extra claim total i = cond (eqb i claim) total 0

-- a claim has more than 32 slots, after `total` slots of the first claim
abbrev pub crowded_by : SearchInput → (claim total : ℕ) → List Asked → Bool
crowded_by w claim total [] = false
crowded_by w claim total (a ∷ l) =
    ltb 32 (cond (eqb a.label.claim claim) total 0 + length (seats w a.ask)) || crowded_by w a.label.claim (cond (eqb a.label.claim claim) total 0 + length (seats w a.ask)) l

-- the claims of these follow one another
abbrev pub AreInOrder : (low high : ℕ) → List Asked → Type 0
AreInOrder low high [] = Unit {0}
AreInOrder low high (a ∷ l) = (low ≤ a.label.claim) × (a.label.claim < high) × AreInOrder a.label.claim high l

weaker : (lower low high : ℕ) (l : List Asked) → lower ≤ low → AreInOrder low high l → AreInOrder lower high l
weaker lower low high [] h k = tt
weaker lower low high (a ∷ l) h k = let g = k.0 in (omega (arith, h, g), k.1, k.2)

same_by : (a i : ℕ) (b : Bool) → eqb a i ≡ b → (a ≡ i) ⊎ (eqb a i ≡ false)
same_by a i true e = inl (eqb-true a i e)
same_by a i false e = inr e

same_or_not : (a i : ℕ) → (a ≡ i) ⊎ (eqb a i ≡ false)
same_or_not a i = same_by a i (eqb a i) refl

turned : (a i : ℕ) → eqb a i ≡ false → eqb i a ≡ false
turned a i e = grind (arith, nat_tests, e)

pick : (b : Bool) (m n : ℕ) → b ≡ false → cond {A = ℕ} b m n ≡ n
pick b m n e = ap (λ (t : Bool). cond {A = ℕ} t m n) e

eqb_same : (a i : ℕ) → a ≡ i → eqb a i ≡ true
eqb_same a i e = grind (arith, nat_tests, e)

eqb_apart : (a i : ℕ) → a < i → eqb a i ≡ false
eqb_apart a i e = grind (arith, nat_tests, e)

eqb_above : (a i : ℕ) → i < a → eqb a i ≡ false
eqb_above a i e = grind (arith, nat_tests, e)

pick_true : (b : Bool) (m n : ℕ) → b ≡ true → cond {A = ℕ} b m n ≡ m
pick_true b m n e = ap (λ (t : Bool). cond {A = ℕ} t m n) e

pick_most : (b : Bool) (m : ℕ) → cond {A = ℕ} b m 0 ≤ m
pick_most true m = omega arith
pick_most false m = omega arith

-- a claim before these has no slots
none_below : (w : SearchInput) (low high : ℕ) (l : List Asked) (i : ℕ) → AreInOrder low high l → i < low → due_to (slots_for w l) i ≡ 0
none_below w low high [] i h k = refl
none_below w low high (a ∷ l) i h k =
    let lower = h.0 in
    let n : i < a.label.claim = omega (arith, k, lower) in
    let e = due_more w a l i in
    let f = pick (eqb a.label.claim i) (length (seats w a.ask)) 0 (eqb_above a.label.claim i n) in
    let g = none_below w a.label.claim high l i h.2 n in
    omega (arith, e, f, g)

-- what the claim at i has
abbrev in_all : SearchInput → (claim total : ℕ) → List Asked → ℕ → ℕ
in_all w claim total l i = extra claim total i + due_to (slots_for w l) i

-- a row of the claim adds its slots
same_claim : (w : SearchInput) (claim total : ℕ) (a : Asked) (l : List Asked)
    → in_all w claim total (a ∷ l) a.label.claim
    ≡ in_all w a.label.claim (cond (eqb a.label.claim claim) total 0 + length (seats w a.ask)) l a.label.claim
same_claim w claim total a l =
    let e = due_more w a l a.label.claim in
    let f = pick_true (eqb a.label.claim a.label.claim) (length (seats w a.ask)) 0 (eqb_same a.label.claim a.label.claim refl) in
    let g = pick_true (eqb a.label.claim a.label.claim) (cond (eqb a.label.claim claim) total 0 + length (seats w a.ask)) 0 (eqb_same a.label.claim a.label.claim refl) in
    omega (arith, e, f, g)

-- a row of another claim adds none
other_claim : (w : SearchInput) (a : Asked) (l : List Asked) (i : ℕ) → eqb a.label.claim i ≡ false → due_to (slots_for w (a ∷ l)) i ≡ due_to (slots_for w l) i
other_claim w a l i e =
    let f = due_more w a l i in
    let g = pick (eqb a.label.claim i) (length (seats w a.ask)) 0 e in
    omega (arith, f, g)

or_false : (a b : Bool) → (a || b) ≡ false → (a ≡ false) × (b ≡ false)
or_false true b e = absurd (cc)
or_false false b e = (refl, e)

or_true : (a b : Bool) → (a || b) ≡ true → (a ≡ true) ⊎ (b ≡ true)
or_true true b e = inl refl
or_true false b e = inr e

or_right : (a b : Bool) → b ≡ true → (a || b) ≡ true
or_right true b e = refl
or_right false b e = e

above_or_below : (i low : ℕ) → low ≤ i → (low ≡ i) ⊎ (low < i)
above_or_below i low h = ⊎_elim
    (λ (e : low ≡ i). inl e)
    (λ (e : eqb low i ≡ false). let n : low < i = grind (arith, nat_tests, e, h) in inr n)
    (same_or_not low i)

few_other : (w : SearchInput) (claim total high : ℕ) (a : Asked) (l : List Asked) (i : ℕ) → total ≤ 32 → AreInOrder claim high (a ∷ l)
    → ((j : ℕ) → a.label.claim ≤ j → in_all w a.label.claim (cond (eqb a.label.claim claim) total 0 + length (seats w a.ask)) l j ≤ 32)
    → claim ≤ i → eqb a.label.claim i ≡ false → (b : Bool) → ltb i a.label.claim ≡ b → in_all w claim total (a ∷ l) i ≤ 32
few_other w claim total high a l i few h rest low e true f =
    let n : i < a.label.claim = grind (arith, nat_tests, f) in
    let g = none_below w a.label.claim high l i h.2 n in
    let k = other_claim w a l i e in
    let m = pick_most (eqb i claim) total in
    omega (arith, g, k, m, few)
few_other w claim total high a l i few h rest low e false f =
    let n : a.label.claim ≤ i = grind (arith, nat_tests, f) in
    let m : a.label.claim < i = grind (arith, nat_tests, n, e) in
    let g = rest i n in
    let k = other_claim w a l i e in
    let lower = h.0 in
    let o : claim < i = omega (arith, lower, m) in
    let q = pick (eqb i claim) total 0 (eqb_above i claim o) in
    omega (arith, g, k, q)

-- if none is crowded, each claim has at most 32
few_each : (w : SearchInput) (claim total high : ℕ) (l : List Asked) → crowded_by w claim total l ≡ false → AreInOrder claim high l → total ≤ 32
    → (i : ℕ) → claim ≤ i → in_all w claim total l i ≤ 32
few_each w claim total high [] e h few i low = let m = pick_most (eqb i claim) total in omega (arith, m, few)
few_each w claim total high (a ∷ l) e h few i low =
    let t = or_false (ltb 32 (cond (eqb a.label.claim claim) total 0 + length (seats w a.ask))) (crowded_by w a.label.claim (cond (eqb a.label.claim claim) total 0 + length (seats w a.ask)) l) e in
    let f = t.0 in
    let n : cond (eqb a.label.claim claim) total 0 + length (seats w a.ask) ≤ 32 = grind (arith, nat_tests, f) in
    let rest = few_each w a.label.claim (cond (eqb a.label.claim claim) total 0 + length (seats w a.ask)) high l t.1 h.2 n in
    ⊎_elim
    (λ (s : a.label.claim ≡ i).
    subst (λ (j : ℕ). in_all w claim total (a ∷ l) j ≤ 32) s
    (let g = rest a.label.claim (omega arith) in let k = same_claim w claim total a l in omega (arith, g, k)))
    (λ (d : eqb a.label.claim i ≡ false). few_other w claim total high a l i few h rest low d (ltb i a.label.claim) refl)
    (same_or_not a.label.claim i)

-- a claim that has more
pub record IsOver (w : SearchInput) (claim total most : ℕ) (l : List Asked) : Type 0 where
  pub at : ℕ
  pub low : claim ≤ at
  pub high : at < most
  pub over : 32 < in_all w claim total l at

over_more : (w : SearchInput) (claim total high : ℕ) (a : Asked) (l : List Asked) → AreInOrder claim high (a ∷ l)
    → IsOver w a.label.claim (cond (eqb a.label.claim claim) total 0 + length (seats w a.ask)) high l → IsOver w claim total high (a ∷ l)
over_more w claim total high a l h k =
    let lower = h.0 in
    let at_least = k.low in
    let n : claim ≤ k.at = omega (arith, lower, at_least) in
    ⊎_elim
    (λ (s : a.label.claim ≡ k.at).
    let g = same_claim w claim total a l in
    let o : 32 < in_all w a.label.claim (cond (eqb a.label.claim claim) total 0 + length (seats w a.ask)) l a.label.claim
    = subst (λ (j : ℕ). 32 < in_all w a.label.claim (cond (eqb a.label.claim claim) total 0 + length (seats w a.ask)) l j) (sym s) k.over in
    let m : 32 < in_all w claim total (a ∷ l) a.label.claim = omega (arith, g, o) in
    let r : IsOver w claim total high (a ∷ l) = record { at = a.label.claim; low = h.0; high = h.1; over = m } in r)
    (λ (d : eqb a.label.claim k.at ≡ false).
    let f = other_claim w a l k.at d in
    let o = k.over in
    let q = pick (eqb k.at a.label.claim) (cond (eqb a.label.claim claim) total 0 + length (seats w a.ask)) 0 (turned a.label.claim k.at d) in
    let m : 32 < in_all w claim total (a ∷ l) k.at = omega (arith, f, o, q) in
    let r : IsOver w claim total high (a ∷ l) = record { at = k.at; low = n; high = k.high; over = m } in r)
    (same_or_not a.label.claim k.at)

-- if one is crowded, there is such a claim
over_one : (w : SearchInput) (claim total high : ℕ) (l : List Asked) → crowded_by w claim total l ≡ true → AreInOrder claim high l → IsOver w claim total high l
over_one w claim total high [] e h = absurd (cc)
over_one w claim total high (a ∷ l) e h =
    ⊎_elim
    (λ (t : ltb 32 (cond (eqb a.label.claim claim) total 0 + length (seats w a.ask)) ≡ true).
    let n : 32 < cond (eqb a.label.claim claim) total 0 + length (seats w a.ask) = grind (arith, nat_tests, t) in
    let g = same_claim w claim total a l in
    let f = pick_true (eqb a.label.claim a.label.claim) (cond (eqb a.label.claim claim) total 0 + length (seats w a.ask)) 0 (eqb_same a.label.claim a.label.claim refl) in
    let m : 32 < in_all w claim total (a ∷ l) a.label.claim = omega (arith, n, g, f) in
    let r : IsOver w claim total high (a ∷ l) = record { at = a.label.claim; low = h.0; high = h.1; over = m } in r)
    (λ (t : crowded_by w a.label.claim (cond (eqb a.label.claim claim) total 0 + length (seats w a.ask)) l ≡ true).
    over_more w claim total high a l h (over_one w a.label.claim (cond (eqb a.label.claim claim) total 0 + length (seats w a.ask)) high l t h.2))
    (or_true (ltb 32 (cond (eqb a.label.claim claim) total 0 + length (seats w a.ask))) (crowded_by w a.label.claim (cond (eqb a.label.claim claim) total 0 + length (seats w a.ask)) l) e)

-- ---- all claims

any_at : (p : ℕ → Bool) (first n i : ℕ) → first ≤ i → i < first + n → p i ≡ true → list_any p (numbers first n) ≡ true
any_at p first zero i h k e = absurd (omega arith)
any_at p first (suc n) i h k e =
    ⊎_elim
    (λ (s : first ≡ i). ap (λ (t : Bool). t || list_any p (numbers (first + 1) n)) (ap p s ∙ e))
    (λ (s : first < i). or_right (p first) (list_any p (numbers (first + 1) n)) (any_at p (first + 1) n i (omega arith) (omega arith) e))
    (above_or_below i first h)

none_at : (p : ℕ → Bool) (first n : ℕ) → ((i : ℕ) → first ≤ i → i < first + n → p i ≡ false) → list_any p (numbers first n) ≡ false
none_at p first zero h = refl
none_at p first (suc n) h =
    ap (λ (t : Bool). t || list_any p (numbers (first + 1) n)) (h first (omega arith) (omega arith))
    ∙ none_at p (first + 1) n (λ i low high. h i (omega arith) (omega arith))

crowded_cases : (w : SearchInput) (high : ℕ) (l : List Asked) (b : Bool) → crowded_by w 0 0 l ≡ b → AreInOrder 0 high l → b ≡ list_any (λ i. ltb 32 (due_to (slots_for w l) i)) (numbers 0 high)
crowded_cases w high l true e h =
    let k = over_one w 0 0 high l e h in
    let o = k.over in
    let m = pick_most (eqb k.at 0) 0 in
    let n : 32 < due_to (slots_for w l) k.at = omega (arith, o, m) in
    let t : ltb 32 (due_to (slots_for w l) k.at) ≡ true = grind (arith, nat_tests, n) in
    let u = k.high in
    sym (any_at (λ i. ltb 32 (due_to (slots_for w l) i)) 0 high k.at (omega arith) (omega (arith, u)) t)
crowded_cases w high l false e h =
    sym (none_at (λ i. ltb 32 (due_to (slots_for w l) i)) 0 high (λ i low most.
    let k = few_each w 0 0 high l e h (omega arith) i (omega arith) in
    let n : due_to (slots_for w l) i ≤ 32 = omega (arith, k) in
    let t : ltb 32 (due_to (slots_for w l) i) ≡ false = grind (arith, nat_tests, n) in t))

pub crowded : (w : SearchInput) (high : ℕ) (l : List Asked) → AreInOrder 0 high l → crowded_by w 0 0 l ≡ list_any (λ i. ltb 32 (due_to (slots_for w l) i)) (numbers 0 high)
crowded w high l h = crowded_cases w high l (crowded_by w 0 0 l) refl h

-- ---- what is asked for, claim by claim

abbrev IsOf : ℕ → Option Asked → Type 0
IsOf i None = Unit {0}
IsOf i (Some a) = a.label.claim ≡ i

sub_of : (q : Wish) (o : Option DeviceSubRequest) → IsOf q.claim (option_map (asked_sub q) o)
sub_of q None = tt
sub_of q (Some s) = refl

kind_of : (q : Wish) (kind : RequestKind) (k : ℕ) → IsOf q.claim (asked_by q kind k)
kind_of q (Exactly r) k = refl
kind_of q (FirstAvailable rs) k = sub_of q (slice_get rs k)

order_add : (i high : ℕ) (o : Option Asked) (l : List Asked) → i < high → IsOf i o → AreInOrder i high l → AreInOrder i high (add_some o l)
order_add i high None l h k g = g
order_add i high (Some a) l h k g =
    let n : i ≤ a.label.claim = omega (arith, k) in
    let m : a.label.claim < high = omega (arith, k, h) in
    (n, m, subst (λ (j : ℕ). AreInOrder j high l) (sym k) g)

order_requests : (i high : ℕ) (key : Key) (rs : List DeviceRequest) (qs : List Wish) → i < high → ((ks : List ℕ) → AreInOrder i high (asked_from qs ks))
    → (ks : List ℕ) → AreInOrder i high (asked_from (wishes_in i key rs ++ qs) ks)
order_requests i high key [] qs h k ks = k ks
order_requests i high key (r ∷ rs) qs h k [] = tt
order_requests i high key (r ∷ rs) qs h k (c ∷ ks) =
    order_add i high (asked_by (record { claim = i; key = key; request = r }) r.kind c) (asked_from (wishes_in i key rs ++ qs) ks) h
    (kind_of (record { claim = i; key = key; request = r }) r.kind c)
    (order_requests i high key rs qs h k ks)

pub order_claims : (i high : ℕ) (cs : List ResourceClaim) (ks : List ℕ) → i + length cs ≡ high → AreInOrder i high (asked_from (wishes_from i cs) ks)
order_claims i high [] ks e = tt
order_claims i high (c ∷ cs) ks e =
    let n : i < high = omega (arith, e) in
    let m : (i + 1) + length cs ≡ high = omega (arith, e) in
    order_requests i high c.key c.requests (wishes_from (i + 1) cs) n
    (λ (l : List ℕ). weaker i (i + 1) high (asked_from (wishes_from (i + 1) cs) l) (omega arith) (order_claims (i + 1) high cs l m))
    ks
