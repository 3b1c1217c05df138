-- Entries in the order of their keys, changed at the index that a search found.
use Rattle.std.proofs.Common.{ℕ, zero, suc, ◌≡◌, ◌∙◌, ◌<◌, ◌≤◌, ◌+◌, ◌/◌, List, [], ◌∷◌, ◌++◌, Bool, true, false, cond, Option, Some, None, refl, ap, sym, length, take, drop, arith}
use Rattle.std.proofs.lemmas.List.{take-append-drop, length-take, length-drop}
use Rattle.std.proofs.lemmas.Option.{none-some}
use Rattle.std.proofs.Math.ListN.{get_or, set}
use Rattle.std.specs.BTreeMap.{insert_entry, is_at}
use Rattle.std.specs.Cmp.{IsTotalOrder}
use Rattle.std.specs.List.{AllByRecursion, insert, remove}
use Rattle.std.specs.List.Sorted.{IsStrictlySortedBy}
use Rattle.std.specs.Map.{keys_of, lookup, remove_entry, set_value}
use Rattle.std.specs.Ordering.{match_ordering}
use Rattle.std.specs.declared.cmp.Ordering.{Ordering}
use Rattle.std.specs.declared.cmp.Ordering.TheVariants.{Less, Equal, Greater}
use Rattle.shared_map.specs.Chunks.{AreBelow, AreAbove, with_value}
use Rattle.shared_map.proofs.Sorting.{all_map, turned}

pub with_value_set : {K V : Type 0} (es : List (K × V)) (i : ℕ) (e : K × V) (w : V) → e ≡ get_or es i e → set es i (e.0, w) ≡ with_value es i w
with_value_set [] i e w at = refl
with_value_set (x ∷ es) zero e w at = ap (λ y. (y.0, w) ∷ es) at
with_value_set (x ∷ es) (suc i) e w at = ap (λ l. x ∷ l) (with_value_set es i e w at)

pub keys-with_value : {K V : Type 0} (es : List (K × V)) (i : ℕ) (w : V) → keys_of (with_value es i w) ≡ keys_of es
keys-with_value [] i w = refl
keys-with_value (x ∷ es) zero w = refl
keys-with_value (x ∷ es) (suc i) w = ap (λ l. x.0 ∷ l) (keys-with_value es i w)

pub length-with_value : {K V : Type 0} (es : List (K × V)) (i : ℕ) (w : V) → length (with_value es i w) ≡ length es
length-with_value [] i w = refl
length-with_value (x ∷ es) zero w = refl
length-with_value (x ∷ es) (suc i) w = ap (λ n. suc n) (length-with_value es i w)

pub insert_hit : {K V : Type 0} (R : K → K → Ordering) (k : K) (v : V) (es : List (K × V)) (i : ℕ) → i < length es → AreBelow R k (take i es) → ((d : K × V) → R k (get_or es i d).0 ≡ Equal) → with_value es i v ≡ insert_entry R es k v
insert_hit R k v [] i h b q = absurd (omega (arith, h))
insert_hit R k v (e ∷ es) zero h b q = rw (q e) refl
insert_hit R k v (e ∷ es) (suc i) h b q = rw b.0 (ap (λ l. e ∷ l) (insert_hit R k v es i (omega (arith, h)) b.1 q))

pub set_hit : {K V : Type 0} (R : K → K → Ordering) (k : K) (w : V) (es : List (K × V)) (i : ℕ) → i < length es → AreBelow R k (take i es) → ((d : K × V) → R k (get_or es i d).0 ≡ Equal) → with_value es i w ≡ set_value (is_at (R k)) es w
set_hit R k w [] i h b q = absurd (omega (arith, h))
set_hit R k w (e ∷ es) zero h b q = rw (q e) refl
set_hit R k w (e ∷ es) (suc i) h b q = rw b.0 (ap (λ l. e ∷ l) (set_hit R k w es i (omega (arith, h)) b.1 q))

pub remove_hit : {K V : Type 0} (R : K → K → Ordering) (k : K) (es : List (K × V)) (i : ℕ) → i < length es → AreBelow R k (take i es) → ((d : K × V) → R k (get_or es i d).0 ≡ Equal) → remove es i ≡ remove_entry (is_at (R k)) es
remove_hit R k [] i h b q = absurd (omega (arith, h))
remove_hit R k (e ∷ es) zero h b q = rw (q e) refl
remove_hit R k (e ∷ es) (suc i) h b q = rw b.0 (ap (λ l. e ∷ l) (remove_hit R k es i (omega (arith, h)) b.1 q))

pub lookup_hit : {K V : Type 0} (R : K → K → Ordering) (k : K) (es : List (K × V)) (i : ℕ) (v : V) → i < length es → AreBelow R k (take i es) → ((d : K × V) → R k (get_or es i d).0 ≡ Equal) → ((d : K × V) → (get_or es i d).1 ≡ v) → lookup (is_at (R k)) es ≡ Some v
lookup_hit R k [] i v h b q u = absurd (omega (arith, h))
lookup_hit R k (e ∷ es) zero v h b q u = rw (q e) (ap (λ x. Some x) (u e))
lookup_hit R k (e ∷ es) (suc i) v h b q u = rw b.0 (lookup_hit R k es i v (omega (arith, h)) b.1 q u)

pub insert_gap : {K V : Type 0} (R : K → K → Ordering) (k : K) (v : V) (es : List (K × V)) (i : ℕ) → i ≤ length es → AreBelow R k (take i es) → AreAbove R k (drop i es) → insert es i (k, v) ≡ insert_entry R es k v
insert_gap R k v [] zero h b a = refl
insert_gap R k v [] (suc i) h b a = absurd (omega (arith, h))
insert_gap R k v (e ∷ es) zero h b a = rw a.0 refl
insert_gap R k v (e ∷ es) (suc i) h b a = rw b.0 (ap (λ l. e ∷ l) (insert_gap R k v es i (omega (arith, h)) b.1 a))

lookup_none : {K V : Type 0} (R : K → K → Ordering) (k : K) (es : List (K × V)) → AreAbove R k es → lookup (is_at (R k)) es ≡ None
lookup_none R k [] a = refl
lookup_none R k (e ∷ es) a = rw a.0 (lookup_none R k es a.1)

pub lookup_gap : {K V : Type 0} (R : K → K → Ordering) (k : K) (es : List (K × V)) (i : ℕ) → AreBelow R k (take i es) → AreAbove R k (drop i es) → lookup (is_at (R k)) es ≡ None
lookup_gap R k es zero b a = lookup_none R k es a
lookup_gap R k [] (suc i) b a = refl
lookup_gap R k (e ∷ es) (suc i) b a = rw b.0 (lookup_gap R k es i b.1 a)

keys_remove : {K V : Type 0} (P : K → Type 0) (es : List (K × V)) (i : ℕ) → AllByRecursion P (keys_of es) → AllByRecursion P (keys_of (remove es i))
keys_remove P [] zero a = tt
keys_remove P [] (suc i) a = tt
keys_remove P (e ∷ es) zero a = a.1
keys_remove P (e ∷ es) (suc i) a = (a.0, keys_remove P es i a.1)

pub sorted_remove : {K V : Type 0} (R : K → K → Ordering) (es : List (K × V)) (i : ℕ) → IsStrictlySortedBy R (keys_of es) → IsStrictlySortedBy R (keys_of (remove es i))
unfolding IsStrictlySortedBy
sorted_remove R [] zero s = tt
sorted_remove R [] (suc i) s = tt
sorted_remove R (e ∷ es) zero s = s.1
sorted_remove R (e ∷ es) (suc i) s = (keys_remove (λ y. R e.0 y ≡ Less) es i s.0, sorted_remove R es i s.1)

keys_take : {K V : Type 0} (P : K → Type 0) (es : List (K × V)) (i : ℕ) → AllByRecursion P (keys_of es) → AllByRecursion P (keys_of (take i es))
keys_take P es zero a = tt
keys_take P [] (suc i) a = tt
keys_take P (e ∷ es) (suc i) a = (a.0, keys_take P es i a.1)

pub sorted_take : {K V : Type 0} (R : K → K → Ordering) (es : List (K × V)) (i : ℕ) → IsStrictlySortedBy R (keys_of es) → IsStrictlySortedBy R (keys_of (take i es))
unfolding IsStrictlySortedBy
sorted_take R es zero s = tt
sorted_take R [] (suc i) s = tt
sorted_take R (e ∷ es) (suc i) s = (keys_take (λ y. R e.0 y ≡ Less) es i s.0, sorted_take R es i s.1)

pub sorted_drop : {K V : Type 0} (R : K → K → Ordering) (es : List (K × V)) (i : ℕ) → IsStrictlySortedBy R (keys_of es) → IsStrictlySortedBy R (keys_of (drop i es))
unfolding IsStrictlySortedBy
sorted_drop R es zero s = s
sorted_drop R [] (suc i) s = tt
sorted_drop R (e ∷ es) (suc i) s = sorted_drop R es i s.1

keys_by : {K V : Type 0} (R : K → K → Ordering) (P : K → Type 0) (k : K) (v : V) (e : K × V) (es : List (K × V)) → P k → AllByRecursion P (keys_of (e ∷ es)) → AllByRecursion P (keys_of (insert_entry R es k v)) → (r : Ordering) → AllByRecursion P (keys_of (match_ordering r ((k, v) ∷ e ∷ es) ((e.0, v) ∷ es) (e ∷ insert_entry R es k v)))
keys_by R P k v e es p a b Less = (p, a)
keys_by R P k v e es p a b Equal = a
keys_by R P k v e es p a b Greater = (a.0, b)

keys_insert : {K V : Type 0} (R : K → K → Ordering) (P : K → Type 0) (k : K) (v : V) (es : List (K × V)) → P k → AllByRecursion P (keys_of es) → AllByRecursion P (keys_of (insert_entry R es k v))
keys_insert R P k v [] p a = (p, tt)
keys_insert R P k v (e ∷ es) p a = keys_by R P k v e es p a (keys_insert R P k v es p a.1) (R k e.0)

sorted_by : {K V : Type 0} (R : K → K → Ordering) → IsTotalOrder R → (k : K) (v : V) (e : K × V) (es : List (K × V)) → IsStrictlySortedBy R (keys_of (e ∷ es)) → IsStrictlySortedBy R (keys_of (insert_entry R es k v)) → (r : Ordering) → R k e.0 ≡ r → IsStrictlySortedBy R (keys_of (match_ordering r ((k, v) ∷ e ∷ es) ((e.0, v) ∷ es) (e ∷ insert_entry R es k v)))
unfolding IsStrictlySortedBy
sorted_by R o k v e es s t Less q = ((q, all_map (λ y a. o.trans k e.0 y q a) (keys_of es) s.0), s)
sorted_by R o k v e es s t Equal q = s
sorted_by R o k v e es s t Greater q = (keys_insert R (λ y. R e.0 y ≡ Less) k v es (turned R o k e.0 q) s.0, t)

pub sorted_insert : {K V : Type 0} (R : K → K → Ordering) → IsTotalOrder R → (k : K) (v : V) (es : List (K × V)) → IsStrictlySortedBy R (keys_of es) → IsStrictlySortedBy R (keys_of (insert_entry R es k v))
unfolding IsStrictlySortedBy
sorted_insert R o k v [] s = (tt, tt)
sorted_insert R o k v (e ∷ es) s = sorted_by R o k v e es s (sorted_insert R o k v es s.1) (R k e.0) refl

pub sorted_none : {K V : Type 0} (R : K → K → Ordering) (es : List (K × V)) → es ≡ [] → IsStrictlySortedBy R (keys_of es)
unfolding IsStrictlySortedBy
sorted_none R es e = rw e tt

pub hit_taken : {K V : Type 0} (R : K → K → Ordering) (k : K) (es : List (K × V)) (i : ℕ) → i < length es → AreBelow R k (take i es) → ((d : K × V) → R k (get_or es i d).0 ≡ Equal) → lookup (is_at (R k)) es ≡ None → ⊥
hit_taken R k [] i h b q n = absurd (omega (arith, h))
hit_taken R k (e ∷ es) zero h b q n = none-some e.1 (sym n ∙ rw (q e) refl)
hit_taken R k (e ∷ es) (suc i) h b q n = hit_taken R k es i (omega (arith, h)) b.1 q (rw b.0 at n)

pub length-remove : {X : Type 0} (xs : List X) (i : ℕ) → i < length xs → length (remove xs i) + 1 ≡ length xs
length-remove [] i h = absurd (omega (arith, h))
length-remove (x ∷ xs) zero h = omega arith
length-remove (x ∷ xs) (suc i) h = let rest = length-remove xs i (omega (arith, h)) in omega (arith, rest)

-- what a removal by a test leaves

remove_none_by : {K V : Type 0} (b : Bool) (e : K × V) (es rest : List (K × V)) (o : Option V) → cond b (Some e.1) o ≡ None → (o ≡ None → rest ≡ es) → cond b es (e ∷ rest) ≡ e ∷ es
remove_none_by true e es rest o n f = absurd (none-some e.1 (sym n))
remove_none_by false e es rest o n f = ap (λ l. e ∷ l) (f n)

pub remove_none : {K V : Type 0} (test : K → Bool) (es : List (K × V)) → lookup test es ≡ None → remove_entry test es ≡ es
remove_none test [] n = refl
remove_none test (e ∷ es) n = remove_none_by (test e.0) e es (remove_entry test es) (lookup test es) n (remove_none test es)

keys_remove_by : {K V : Type 0} (P : K → Type 0) (b : Bool) (e : K × V) (es rest : List (K × V)) → AllByRecursion P (keys_of (e ∷ es)) → AllByRecursion P (keys_of rest) → AllByRecursion P (keys_of (cond b es (e ∷ rest)))
keys_remove_by P true e es rest a r = a.1
keys_remove_by P false e es rest a r = (a.0, r)

keys_remove_entry : {K V : Type 0} (P : K → Type 0) (test : K → Bool) (es : List (K × V)) → AllByRecursion P (keys_of es) → AllByRecursion P (keys_of (remove_entry test es))
keys_remove_entry P test [] a = tt
keys_remove_entry P test (e ∷ es) a = keys_remove_by P (test e.0) e es (remove_entry test es) a (keys_remove_entry P test es a.1)

sorted_remove_by : {K V : Type 0} (R : K → K → Ordering) (b : Bool) (e : K × V) (es rest : List (K × V)) → IsStrictlySortedBy R (keys_of (e ∷ es)) → AllByRecursion (λ y. R e.0 y ≡ Less) (keys_of rest) → IsStrictlySortedBy R (keys_of rest) → IsStrictlySortedBy R (keys_of (cond b es (e ∷ rest)))
unfolding IsStrictlySortedBy
sorted_remove_by R true e es rest s a r = s.1
sorted_remove_by R false e es rest s a r = (a, r)

pub sorted_remove_entry : {K V : Type 0} (R : K → K → Ordering) (test : K → Bool) (es : List (K × V)) → IsStrictlySortedBy R (keys_of es) → IsStrictlySortedBy R (keys_of (remove_entry test es))
unfolding IsStrictlySortedBy
sorted_remove_entry R test [] s = tt
sorted_remove_entry R test (e ∷ es) s =
    sorted_remove_by R (test e.0) e es (remove_entry test es) s (keys_remove_entry (λ y. R e.0 y ≡ Less) test es s.0) (sorted_remove_entry R test es s.1)

-- a list of two or more that is cut in halves

pub halves_same : {X : Type 0} (old es lower upper : List X) (n : ℕ) → lower ≡ take n es → upper ≡ drop n es → es ≡ old → lower ++ upper ≡ old
halves_same old es lower upper n l u e = rw (l, u) (take-append-drop n es) ∙ e

pub lower_some : {X : Type 0} (old es lower : List X) (n : ℕ) → lower ≡ take (n / 2) es → n ≡ length es → es ≡ old → 2 ≤ length old → 0 < length lower
lower_some old es lower n l m e h = omega (arith, ap length l, length-take (n / 2) es, ap length e, m, h)

pub upper_some : {X : Type 0} (old es upper : List X) (n : ℕ) → upper ≡ drop (n / 2) es → n ≡ length es → es ≡ old → 2 ≤ length old → 0 < length upper
upper_some old es upper n u m e h = omega (arith, ap length u, length-drop (n / 2) es, ap length e, m, h)
