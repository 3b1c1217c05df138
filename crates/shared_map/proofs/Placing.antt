-- What is done to the one chunk to which a key belongs is done to the whole.
use Rattle.std.proofs.Math.Bool.{true≢false}
use Rattle.std.proofs.Common.{ℕ, zero, suc, ◌==◌, ◌≡◌, ◌∙◌, ◌<◌, ◌+◌, ◌-◌, List, [], ◌∷◌, ◌++◌, Option, Some, refl, ap, sym, length, take, drop, arith, length-append, Bool, true, false, if◌then◌else◌, is_some}
use Rattle.std.proofs.Math.ListN.{get_or, set}
use Rattle.std.proofs.lemmas.Bool.{eqb-true}
use Rattle.std.proofs.lemmas.List.{nil_from_length, take-append-drop}
use Rattle.std.proofs.lemmas.Map.{keys-set_value, length-set_value}
use Rattle.std.specs.BTreeMap.{insert_entry, is_at}
use Rattle.std.specs.Cmp.{IsTotalOrder}
use Rattle.std.specs.List.{AllByRecursion, insert, remove}
use Rattle.std.specs.List.Sorted.{IsStrictlySortedBy}
use Rattle.std.specs.Map.{keys_of, lookup, remove_entry, set_value}
use Rattle.std.specs.declared.cmp.Ordering.{Ordering}
use Rattle.shared_map.specs.Chunks.{joined, AreChunks, IsChunkOf}
use Rattle.shared_map.proofs.Between.{insert_between, lookup_between, remove_between, set_between}
use Rattle.shared_map.proofs.Hitting.{sorted_insert, sorted_remove_entry, sorted_take, sorted_drop}
use Rattle.shared_map.proofs.Sorting.{at_any}
use Rattle.shared_map.proofs.Joining.{around, around_set, around_split, joined_append, all_set, all_insert, all_take, all_drop, all_at, all_remove_set, all_back, joined_remove}

-- the chunk of a key

pub lookup_of_chunk : {K V : Type 0} (R : K → K → Ordering) (k : K) (cs : List (List (K × V))) (i : ℕ) (c : List (K × V)) → IsChunkOf R k cs i → c ≡ get_or cs i c → lookup (is_at (R k)) (joined cs) ≡ lookup (is_at (R k)) c
lookup_of_chunk R k cs i c at here =
    ap (lookup (is_at (R k))) (around cs i at.within) ∙ lookup_between R k (joined (take i cs)) (get_or cs i []) (joined (drop (i + 1) cs)) at.below at.above ∙ ap (lookup (is_at (R k))) (at_any cs i c [] at.within here)

-- an insertion

pub put_same : {K V : Type 0} (R : K → K → Ordering) (k : K) (v : V) (cs : List (List (K × V))) (i : ℕ) (c put : List (K × V)) → IsChunkOf R k cs i → c ≡ get_or cs i c → put ≡ insert_entry R c k v → joined (set cs i put) ≡ insert_entry R (joined cs) k v
put_same R k v cs i c put at here p =
    around_set cs i put at.within
    ∙ ap (λ t. joined (take i cs) ++ (t ++ joined (drop (i + 1) cs))) (p ∙ ap (λ t. insert_entry R t k v) (sym (at_any cs i c [] at.within here)))
    ∙ sym (insert_between R k v (joined (take i cs)) (get_or cs i []) (joined (drop (i + 1) cs)) at.below at.above)
    ∙ ap (λ es. insert_entry R es k v) (sym (around cs i at.within))

length_around : {E : Type 0} (p c q : List E) → length (p ++ (c ++ q)) ≡ length p + (length c + length q)
length_around p c q = length-append p (c ++ q) ∙ ap (λ n. length p + n) (length-append c q)

-- one chunk in place of another changes the count by what it has more
pub set_count : {E : Type 0} (cs : List (List E)) (i : ℕ) (c : List E) → i < length cs → length (joined (set cs i c)) + length (get_or cs i []) ≡ length (joined cs) + length c
set_count cs i c h =
    let new = ap length (around_set cs i c h) ∙ length_around (joined (take i cs)) c (joined (drop (i + 1) cs)) in
    let old = ap length (around cs i h) ∙ length_around (joined (take i cs)) (get_or cs i []) (joined (drop (i + 1) cs)) in
    omega (arith, new, old)

pub put_count : {E : Type 0} (cs new : List (List E)) (i : ℕ) (c put : List E) (b : Bool) → joined new ≡ joined (set cs i put) → i < length cs → c ≡ get_or cs i c → length put ≡ (if b then length c + 1 else length c) → length (joined new) ≡ (if b then length (joined cs) + 1 else length (joined cs))
put_count cs new i c put true e h here n =
    let count = set_count cs i put h in let old = at_any cs i c [] h here in omega (arith, count, ap length old, ap length e, n)
put_count cs new i c put false e h here n =
    let count = set_count cs i put h in let old = at_any cs i c [] h here in omega (arith, count, ap length old, ap length e, n)

pub put_kept : {K V : Type 0} (R : K → K → Ordering) → IsTotalOrder R → (k : K) (v : V) (cs new : List (List (K × V))) → joined new ≡ insert_entry R (joined cs) k v → AllByRecursion (λ c. 0 < length c) new → AreChunks R cs → AreChunks R new
put_kept R o k v cs new e some a = record { in_order = rw e (sorted_insert R o k v (joined cs) a.in_order); none_empty = some }

pub first_chunks : {K V : Type 0} (R : K → K → Ordering) (k : K) (v : V) (new : List (List (K × V))) → new ≡ ((k, v) ∷ []) ∷ [] → AreChunks R new
unfolding IsStrictlySortedBy
first_chunks R k v new e = rw e (record { in_order = (tt, tt); none_empty = (omega arith, tt) })

pub no_chunks : {K V : Type 0} (R : K → K → Ordering) (new : List (List (K × V))) → new ≡ [] → AreChunks R new
unfolding IsStrictlySortedBy
no_chunks R new e = rw e (record { in_order = tt; none_empty = tt })

-- a chunk that is split in halves

pub split_same : {E : Type 0} (cs new : List (List E)) (i : ℕ) (c lower upper : List E) → new ≡ insert (set cs i lower) (i + 1) upper → i < length cs → c ≡ get_or cs i c → lower ++ upper ≡ c → joined new ≡ joined cs
split_same cs new i c lower upper e h here whole =
    ap joined e
    ∙ around_split cs i lower upper h
    ∙ ap (λ t. joined (take i cs) ++ (t ++ joined (drop (i + 1) cs))) (whole ∙ sym (at_any cs i c [] h here))
    ∙ sym (around cs i h)

pub split_some : {E : Type 0} (cs new : List (List E)) (i : ℕ) (lower upper : List E) → new ≡ insert (set cs i lower) (i + 1) upper → 0 < length lower → 0 < length upper → AllByRecursion (λ c. 0 < length c) cs → AllByRecursion (λ c. 0 < length c) new
split_some cs new i lower upper e l u a = rw e (all_insert (λ c. 0 < length c) (set cs i lower) (i + 1) upper (all_set (λ c. 0 < length c) cs i lower a l) u)

-- a list that is cut in two

pub cut_same : {E : Type 0} (cs lower upper : List (List E)) (n : ℕ) → lower ≡ take n cs → upper ≡ drop n cs → joined lower ++ joined upper ≡ joined cs
cut_same cs lower upper n l u = rw (l, u) (sym (joined_append (take n cs) (drop n cs)) ∙ ap joined (take-append-drop n cs))

sorted_lower : {K V : Type 0} (R : K → K → Ordering) (xs ys : List (K × V)) → IsStrictlySortedBy R (keys_of (xs ++ ys)) → IsStrictlySortedBy R (keys_of xs)
sorted_lower R xs ys s = rw (taken xs ys) at (sorted_take R (xs ++ ys) (length xs) s)
  where
    taken : {X : Type 0} (xs ys : List X) → take (length xs) (xs ++ ys) ≡ xs
    taken [] ys = refl
    taken (x ∷ xs) ys = ap (λ t. x ∷ t) (taken xs ys)

sorted_upper : {K V : Type 0} (R : K → K → Ordering) (xs ys : List (K × V)) → IsStrictlySortedBy R (keys_of (xs ++ ys)) → IsStrictlySortedBy R (keys_of ys)
sorted_upper R xs ys s = rw (left xs ys) at (sorted_drop R (xs ++ ys) (length xs) s)
  where
    left : {X : Type 0} (xs ys : List X) → drop (length xs) (xs ++ ys) ≡ ys
    left [] ys = refl
    left (x ∷ xs) ys = left xs ys

pub lower_chunks : {K V : Type 0} (R : K → K → Ordering) (cs lower : List (List (K × V))) (n : ℕ) → lower ≡ take n cs → AreChunks R cs → AreChunks R lower
lower_chunks R cs lower n l a =
    rw l
    (record {
      in_order = sorted_lower R (joined (take n cs)) (joined (drop n cs)) (rw (cut_same cs (take n cs) (drop n cs) n refl refl) a.in_order);
      none_empty = all_take (λ c. 0 < length c) n cs a.none_empty;
    })

pub upper_chunks : {K V : Type 0} (R : K → K → Ordering) (cs upper : List (List (K × V))) (n : ℕ) → upper ≡ drop n cs → AreChunks R cs → AreChunks R upper
upper_chunks R cs upper n u a =
    rw u
    (record {
      in_order = sorted_upper R (joined (take n cs)) (joined (drop n cs)) (rw (cut_same cs (take n cs) (drop n cs) n refl refl) a.in_order);
      none_empty = all_drop (λ c. 0 < length c) n cs a.none_empty;
    })

-- chunks of which none is empty have an entry if there is one
pub some_joined : {E : Type 0} (cs : List (List E)) → AllByRecursion (λ c. 0 < length c) cs → 0 < length cs → 0 < length (joined cs)
some_joined [] a h = absurd (omega (arith, h))
some_joined (c ∷ cs) a h = omega (arith, a.0, length-append c (joined cs))

not_none : (n : ℕ) → 0 < n → (b : Bool) → b ≡ (n == 0) → false ≡ (n == 0)
not_none n h true e = absurd (omega (arith, h, eqb-true n 0 (sym e)))
not_none n h false e = e

pub empty_joined : {E : Type 0} (cs : List (List E)) → AllByRecursion (λ c. 0 < length c) cs → (length cs == 0) ≡ (length (joined cs) == 0)
empty_joined [] a = refl
empty_joined (c ∷ cs) a =
    sym (not_none (length (c ∷ cs)) (omega arith) (length (c ∷ cs) == 0) refl)
    ∙ not_none (length (joined (c ∷ cs))) (some_joined (c ∷ cs) a (omega arith)) (length (joined (c ∷ cs)) == 0) refl

-- a removal

pub take_same : {K V : Type 0} (R : K → K → Ordering) (k : K) (cs : List (List (K × V))) (i : ℕ) (c put : List (K × V)) → IsChunkOf R k cs i → c ≡ get_or cs i c → put ≡ remove_entry (is_at (R k)) c → joined (set cs i put) ≡ remove_entry (is_at (R k)) (joined cs)
take_same R k cs i c put at here p =
    around_set cs i put at.within
    ∙ ap (λ t. joined (take i cs) ++ (t ++ joined (drop (i + 1) cs))) (p ∙ ap (remove_entry (is_at (R k))) (sym (at_any cs i c [] at.within here)))
    ∙ sym (remove_between R k (joined (take i cs)) (get_or cs i []) (joined (drop (i + 1) cs)) at.below at.above)
    ∙ ap (remove_entry (is_at (R k))) (sym (around cs i at.within))

pub took_kept : {K V : Type 0} (R : K → K → Ordering) (k : K) (cs new : List (List (K × V))) → joined new ≡ remove_entry (is_at (R k)) (joined cs) → AllByRecursion (λ c. 0 < length c) new → AreChunks R cs → AreChunks R new
took_kept R k cs new e some a = record { in_order = rw e (sorted_remove_entry R (is_at (R k)) (joined cs) a.in_order); none_empty = some }

took_one_by : {K V : Type 0} (b : Bool) (e : K × V) (es rest : List (K × V)) (o t : Option V) → t ≡ if b then Some e.1 else o → is_some t ≡ true → (is_some o ≡ true → length rest + 1 ≡ length es) → length (if b then es else e ∷ rest) + 1 ≡ length (e ∷ es)
took_one_by true e es rest o t q s f = omega arith
took_one_by false e es rest o t q s f = omega (arith, f (rw q at s))

pub took_one : {K V : Type 0} (test : K → Bool) (es : List (K × V)) → is_some (lookup test es) ≡ true → length (remove_entry test es) + 1 ≡ length es
took_one test [] s = absurd (true≢false (sym s))
took_one test (e ∷ es) s = took_one_by (test e.0) e es (remove_entry test es) (lookup test es) (lookup test (e ∷ es)) refl s (took_one test es)

took_none_by : {K V : Type 0} (b : Bool) (e : K × V) (es rest : List (K × V)) (o t : Option V) → t ≡ if b then Some e.1 else o → is_some t ≡ false → (is_some o ≡ false → rest ≡ es) → (if b then es else e ∷ rest) ≡ e ∷ es
took_none_by true e es rest o t q s f = absurd (true≢false (rw q at s))
took_none_by false e es rest o t q s f = ap (λ l. e ∷ l) (f (rw q at s))

pub took_none : {K V : Type 0} (test : K → Bool) (es : List (K × V)) → is_some (lookup test es) ≡ false → remove_entry test es ≡ es
took_none test [] s = refl
took_none test (e ∷ es) s = took_none_by (test e.0) e es (remove_entry test es) (lookup test es) (lookup test (e ∷ es)) refl s (took_none test es)

pub took_count : {K V : Type 0} (test : K → Bool) (old es new : List (K × V)) (o : Option V) (n : ℕ) → n ≡ length old → es ≡ old → o ≡ lookup test es → new ≡ remove_entry test es → true ≡ is_some o → n - 1 ≡ length new
took_count test old es new o n m e l r s = let one = took_one test es (sym (s ∙ ap is_some l)) in omega (arith, one, m, ap length e, ap length r)

pub left_count : {K V : Type 0} (test : K → Bool) (old es new : List (K × V)) (o : Option V) (n : ℕ) → n ≡ length old → es ≡ old → o ≡ lookup test es → new ≡ remove_entry test es → false ≡ is_some o → n ≡ length new
left_count test old es new o n m e l r s = m ∙ ap length (sym e) ∙ ap length (sym (r ∙ took_none test es (sym (s ∙ ap is_some l))))

pub others_some : {E : Type 0} (cs : List (List E)) (i : ℕ) (put : List E) → AllByRecursion (λ c. 0 < length c) cs → AllByRecursion (λ c. 0 < length c) (remove (set cs i put) i)
others_some cs i put a = all_remove_set (λ c. 0 < length c) cs i put a

pub dropped_same : {E : Type 0} (cs new : List (List E)) (i : ℕ) (c : List E) → new ≡ remove cs i → i < length cs → c ≡ get_or cs i c → length c ≡ 0 → joined new ≡ joined cs
dropped_same cs new i c e h here n = rw e (joined_remove cs i (at_any cs i c [] h here ∙ nil_from_length c n))

pub left_some : {E : Type 0} (cs : List (List E)) (i : ℕ) (c : List E) → i < length cs → c ≡ get_or cs i c → 0 < length c → AllByRecursion (λ c. 0 < length c) (remove cs i) → AllByRecursion (λ c. 0 < length c) cs
left_some cs i c h here n a = all_back (λ c. 0 < length c) cs i [] h a (rw (at_any cs i c [] h here) n)

pub some_of : (n : ℕ) → false ≡ (n == 0) → 0 < n
some_of zero e = absurd (true≢false (sym e))
some_of (suc n) e = omega arith

pub none_of : (n : ℕ) → true ≡ (n == 0) → n ≡ 0
none_of n e = eqb-true n 0 (sym e)

-- a value that is changed in place

pub set_joined : {K V : Type 0} (R : K → K → Ordering) (k : K) (w : V) (cs : List (List (K × V))) (i : ℕ) (c : List (K × V)) → IsChunkOf R k cs i → c ≡ get_or cs i c → joined (set cs i (set_value (is_at (R k)) c w)) ≡ set_value (is_at (R k)) (joined cs) w
set_joined R k w cs i c at here =
    around_set cs i (set_value (is_at (R k)) c w) at.within
    ∙ ap (λ t. joined (take i cs) ++ (set_value (is_at (R k)) t w ++ joined (drop (i + 1) cs))) (sym (at_any cs i c [] at.within here))
    ∙ sym (set_between R k w (joined (take i cs)) (get_or cs i []) (joined (drop (i + 1) cs)) at.below at.above)
    ∙ ap (λ es. set_value (is_at (R k)) es w) (sym (around cs i at.within))

pub written : {K V : Type 0} (R : K → K → Ordering) (k : K) (w : V) (cs : List (List (K × V))) (i : ℕ) (c : List (K × V)) → IsChunkOf R k cs i → c ≡ get_or cs i c → AreChunks R cs → AreChunks R (set cs i (set_value (is_at (R k)) c w))
written R k w cs i c at here a =
    let some : 0 < length c = rw (← at_any cs i c [] at.within here) (all_at (λ c. 0 < length c) cs i [] at.within a.none_empty) in
    record {
      in_order = rw (ap keys_of (set_joined R k w cs i c at here) ∙ keys-set_value (is_at (R k)) (joined cs) w) a.in_order;
      none_empty = all_set (λ c. 0 < length c) cs i (set_value (is_at (R k)) c w) a.none_empty (rw (length-set_value (is_at (R k)) c w) some);
    }
