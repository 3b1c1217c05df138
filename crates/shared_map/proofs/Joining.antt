-- A list of chunks, around the chunk at an index.
use Rattle.std.proofs.Common.{ℕ, zero, suc, ◌≡◌, ◌∙◌, ◌<◌, ◌+◌, List, [], ◌∷◌, ◌++◌, refl, ap, sym, length, take, drop, arith, append_assoc, true, false, add-one}
use Rattle.std.proofs.Math.ListN.{get_or, set}
use Rattle.std.proofs.lemmas.List.{take-append-drop, drop_more, take_more_set, drop-set-lt, set_split, append-nil}
use Rattle.std.specs.Cmp.{IsTotalOrder}
use Rattle.std.specs.List.{AllByRecursion, insert, remove}
use Rattle.std.specs.List.Sorted.{IsStrictlySortedBy}
use Rattle.std.specs.Map.{keys_of}
use Rattle.std.specs.Ordering.{is_lt}
use Rattle.std.specs.declared.cmp.Ordering.{Ordering}
use Rattle.std.specs.declared.cmp.Ordering.TheVariants.{Less, Equal, Greater}
use Rattle.std.proofs.Math.Bool.{true≢false}
use Rattle.shared_map.specs.Chunks.{joined, AreBelow, AreAbove, AreChunks, begins_above}
use Rattle.shared_map.proofs.Sorting.{above_after, below_before, below_equal}

pub joined_append : {E : Type 0} (xs ys : List (List E)) → joined (xs ++ ys) ≡ joined xs ++ joined ys
joined_append [] ys = refl
joined_append (x ∷ xs) ys = ap (λ t. x ++ t) (joined_append xs ys) ∙ sym (append_assoc x (joined xs) (joined ys))

pub around : {E : Type 0} (cs : List (List E)) (i : ℕ) → i < length cs → joined cs ≡ joined (take i cs) ++ (get_or cs i [] ++ joined (drop (i + 1) cs))
around cs i h =
    ap joined (sym (take-append-drop i cs)) ∙ joined_append (take i cs) (drop i cs) ∙ ap (λ t. joined (take i cs) ++ joined t) (drop_more cs i [] h)

pub around_set : {E : Type 0} (cs : List (List E)) (i : ℕ) (c : List E) → i < length cs → joined (set cs i c) ≡ joined (take i cs) ++ (c ++ joined (drop (i + 1) cs))
around_set cs i c h = rw add-one (ap joined (set_split cs i c h) ∙ joined_append (take i cs) (c ∷ drop (suc i) cs))

regroup : {E : Type 0} (p a b q : List E) → (p ++ (a ++ [])) ++ (b ++ q) ≡ p ++ ((a ++ b) ++ q)
regroup p a b q = simp (append-nil, append_assoc)

pub around_split : {E : Type 0} (cs : List (List E)) (i : ℕ) (a b : List E) → i < length cs → joined (insert (set cs i a) (i + 1) b) ≡ joined (take i cs) ++ ((a ++ b) ++ joined (drop (i + 1) cs))
around_split cs i a b h =
    ap (λ t. joined (t ++ b ∷ drop (i + 1) (set cs i a))) (take_more_set cs i a h)
    ∙ ap (λ t. joined ((take i cs ++ a ∷ []) ++ b ∷ t)) (drop-set-lt (i + 1) cs i a (omega arith))
    ∙ joined_append (take i cs ++ a ∷ []) (b ∷ drop (i + 1) cs)
    ∙ ap (λ t. t ++ (b ++ joined (drop (i + 1) cs))) (joined_append (take i cs) (a ∷ []))
    ∙ regroup (joined (take i cs)) a b (joined (drop (i + 1) cs))

pub all_set : {X : Type 0} (P : X → Type 0) (xs : List X) (i : ℕ) (x : X) → AllByRecursion P xs → P x → AllByRecursion P (set xs i x)
all_set P [] i x a p = tt
all_set P (y ∷ xs) zero x a p = (p, a.1)
all_set P (y ∷ xs) (suc i) x a p = (a.0, all_set P xs i x a.1 p)

pub all_take : {X : Type 0} (P : X → Type 0) (i : ℕ) (xs : List X) → AllByRecursion P xs → AllByRecursion P (take i xs)
all_take P zero xs a = tt
all_take P (suc i) [] a = tt
all_take P (suc i) (x ∷ xs) a = (a.0, all_take P i xs a.1)

pub all_drop : {X : Type 0} (P : X → Type 0) (i : ℕ) (xs : List X) → AllByRecursion P xs → AllByRecursion P (drop i xs)
all_drop P zero xs a = a
all_drop P (suc i) [] a = tt
all_drop P (suc i) (x ∷ xs) a = all_drop P i xs a.1

pub all_append : {X : Type 0} (P : X → Type 0) (xs ys : List X) → AllByRecursion P xs → AllByRecursion P ys → AllByRecursion P (xs ++ ys)
all_append P [] ys a b = b
all_append P (x ∷ xs) ys a b = (a.0, all_append P xs ys a.1 b)

pub all_insert : {X : Type 0} (P : X → Type 0) (xs : List X) (i : ℕ) (x : X) → AllByRecursion P xs → P x → AllByRecursion P (insert xs i x)
all_insert P xs i x a p = all_append P (take i xs) (x ∷ drop i xs) (all_take P i xs a) (p, all_drop P i xs a)

pub all_at : {X : Type 0} (P : X → Type 0) (xs : List X) (i : ℕ) (d : X) → i < length xs → AllByRecursion P xs → P (get_or xs i d)
all_at P [] i d h a = absurd (omega (arith, h))
all_at P (x ∷ xs) zero d h a = a.0
all_at P (x ∷ xs) (suc i) d h a = all_at P xs i d (omega (arith, h)) a.1

by_order : {K V : Type 0} (R : K → K → Ordering) → IsTotalOrder R → (k : K) (low : List (K × V)) (e : K × V) (high : List (K × V)) → IsStrictlySortedBy R (keys_of (low ++ e ∷ high)) → (r : Ordering) → R k e.0 ≡ r → is_lt r ≡ false → AreBelow R k low
by_order R o k low e high s Less q b = absurd (true≢false b)
by_order R o k low e high s Equal q b = below_equal R o k low e high s q
by_order R o k low e high s Greater q b = below_before R o k low e high s q

less_of : (r : Ordering) → is_lt r ≡ true → r ≡ Less
less_of Less b = refl
less_of Equal b = absurd (true≢false (sym b))
less_of Greater b = absurd (true≢false (sym b))

-- a chunk that begins above a key: it and the later ones are above it
begins : {K V : Type 0} (R : K → K → Ordering) → IsTotalOrder R → (k : K) (low : List (K × V)) (c high : List (K × V)) → IsStrictlySortedBy R (keys_of (low ++ (c ++ high))) → 0 < length c → begins_above R k c ≡ true → AreAbove R k (c ++ high)
begins R o k low [] high s h b = absurd (omega (arith, h))
begins R o k low (e ∷ es) high s h b = above_after R o k low e (es ++ high) s (less_of (R k e.0) b)

-- a chunk that doesn't: the earlier ones are below it
begins_not : {K V : Type 0} (R : K → K → Ordering) → IsTotalOrder R → (k : K) (low : List (K × V)) (c high : List (K × V)) → IsStrictlySortedBy R (keys_of (low ++ (c ++ high))) → 0 < length c → begins_above R k c ≡ false → AreBelow R k low
begins_not R o k low [] high s h b = absurd (omega (arith, h))
begins_not R o k low (e ∷ es) high s h b = by_order R o k low e (es ++ high) s (R k e.0) refl b

pub above_chunk : {K V : Type 0} (R : K → K → Ordering) → IsTotalOrder R → (k : K) (cs : List (List (K × V))) (i : ℕ) → AreChunks R cs → i < length cs → begins_above R k (get_or cs i []) ≡ true → AreAbove R k (joined (drop i cs))
above_chunk R o k cs i a h b =
    rw (drop_more cs i [] h) (begins R o k (joined (take i cs)) (get_or cs i []) (joined (drop (i + 1) cs)) (rw (around cs i h) at a.in_order) (all_at (λ c. 0 < length c) cs i [] h a.none_empty) b)

pub below_chunk : {K V : Type 0} (R : K → K → Ordering) → IsTotalOrder R → (k : K) (cs : List (List (K × V))) (i : ℕ) → AreChunks R cs → i < length cs → begins_above R k (get_or cs i []) ≡ false → AreBelow R k (joined (take i cs))
below_chunk R o k cs i a h b =
    begins_not R o k (joined (take i cs)) (get_or cs i []) (joined (drop (i + 1) cs)) (rw (around cs i h) at a.in_order) (all_at (λ c. 0 < length c) cs i [] h a.none_empty) b

pub set_here : {X : Type 0} (xs : List X) (i : ℕ) (x : X) → x ≡ get_or xs i x → set xs i x ≡ xs
set_here [] i x e = refl
set_here (y ∷ xs) zero x e = ap (λ z. z ∷ xs) e
set_here (y ∷ xs) (suc i) x e = ap (λ t. y ∷ t) (set_here xs i x e)

pub all_remove_set : {X : Type 0} (P : X → Type 0) (xs : List X) (i : ℕ) (x : X) → AllByRecursion P xs → AllByRecursion P (remove (set xs i x) i)
all_remove_set P [] zero x a = tt
all_remove_set P [] (suc i) x a = tt
all_remove_set P (y ∷ xs) zero x a = a.1
all_remove_set P (y ∷ xs) (suc i) x a = (a.0, all_remove_set P xs i x a.1)

pub all_back : {X : Type 0} (P : X → Type 0) (xs : List X) (i : ℕ) (d : X) → i < length xs → AllByRecursion P (remove xs i) → P (get_or xs i d) → AllByRecursion P xs
all_back P [] i d h a p = tt
all_back P (y ∷ xs) zero d h a p = (p, a)
all_back P (y ∷ xs) (suc i) d h a p = (a.0, all_back P xs i d (omega (arith, h)) a.1 p)

pub joined_remove : {E : Type 0} (cs : List (List E)) (i : ℕ) → get_or cs i [] ≡ [] → joined (remove cs i) ≡ joined cs
joined_remove [] zero e = refl
joined_remove [] (suc i) e = refl
joined_remove (c ∷ cs) zero e = rw e refl
joined_remove (c ∷ cs) (suc i) e = ap (λ t. c ++ t) (joined_remove cs i e)
