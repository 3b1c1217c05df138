-- Entries that are put in by one order and then read into a table by another.
use Rattle.std.proofs.Common.{◌≡◌, ℕ, ◌+◌, ◌≤◌, List, [], ◌∷◌, ◌++◌, length, None, Ordering, Less, Equal, Greater, true, false, refl, sym, ap, ◌∙◌, append_assoc, arith}
use Rattle.std.proofs.lemmas.List.{append-nil}
use Rattle.std.specs.BTreeMap.{insert_entry, is_at}
use Rattle.std.specs.Cmp.{IsTotalOrder}
use Rattle.std.specs.Cmp.Lexicographic.{slice_cmp}
use Rattle.std.specs.List.{AllByRecursion}
use Rattle.std.specs.List.Sorted.{IsStrictlySortedBy}
use Rattle.std.specs.Map.{keys_of, lookup, values_of}
use Rattle.std.specs.Ordering.{is_eq, nat_cmp, ordering_reverse}
use Rattle.serde_json.specs.Data.{Data, Members, no_members, member, put}
use Rattle.api_slice.specs.Lists.{members_length}
use Rattle.api_print.specs.Shapes.{with_entries}
use Rattle.api_print.proofs.Tables.{insert_last}

-- ---- orders

by_order : {G : Type 0} (o : Ordering) → (o ≡ Less → G) → (o ≡ Equal → G) → (o ≡ Greater → G) → G
by_order Less l e g = l refl
by_order Equal l e g = e refl
by_order Greater l e g = g refl

turned : {K : Type 0} (R : K → K → Ordering) → IsTotalOrder R → (a b : K) (o : Ordering) → R a b ≡ o → R b a ≡ ordering_reverse o
turned R total a b o h = total.antisymm b a ∙ ap ordering_reverse h

-- ---- one entry more, in either order

less_first : {K X : Type 0} (R : K → K → Ordering) → IsTotalOrder R → (a b : K) (u v : X) (t : List (K × X)) → R a b ≡ Less → insert_entry R (insert_entry R t a u) b v ≡ insert_entry R (insert_entry R t b v) a u
less_first R total a b u v [] ab =
    let ba : R b a ≡ Greater = turned R total a b Less ab in
    simp (ba, ab)
less_first R total a b u v (c ∷ t) ab =
    let ba : R b a ≡ Greater = turned R total a b Less ab in
    by_order (R a c.0)
    (λ ac. by_order (R b c.0) (λ bc. simp (ac, bc, ba, ab)) (λ bc. simp (ac, bc, ba)) (λ bc. simp (ac, bc, ba)))
    (λ ac. let bc : R b c.0 ≡ Greater = turned R total c.0 b Less (sym (total.congr a c.0 b ac) ∙ ab) in simp (ac, bc))
    (λ ac. let bc : R b c.0 ≡ Greater = turned R total c.0 b Less (total.trans c.0 a b (turned R total a c.0 Greater ac) ab) in
    simp (ac, bc) (ap (λ es. c ∷ es) (less_first R total a b u v t ab)))

-- two different keys may be put in in either order
either_first : {K X : Type 0} (R : K → K → Ordering) → IsTotalOrder R → (a b : K) (u v : X) (t : List (K × X)) → is_eq (R a b) ≡ false → insert_entry R (insert_entry R t a u) b v ≡ insert_entry R (insert_entry R t b v) a u
either_first R total a b u v t h =
    by_order (R a b) (λ ab. less_first R total a b u v t ab) (λ ab. absurd (let no_value : true ≡ false = sym (ap is_eq ab) ∙ h in cc))
    (λ ab. sym (less_first R total b a v u t (turned R total a b Greater ab)))

-- ---- lists of entries

-- the entries of a list put in one after another
abbrev pub inserted : {K X : Type 0} → (K → K → Ordering) → List (K × X) → List (K × X) → List (K × X)
inserted R t [] = t
inserted R t (e ∷ es) = inserted R (insert_entry R t e.0 e.1) es

-- no key of the list is equal to this one
abbrev pub IsFresh : {K X : Type 0} → (K → K → Ordering) → K → List (K × X) → Type 0
IsFresh R k es = AllByRecursion (λ q. is_eq (R k q) ≡ false) (keys_of es)

-- no two keys of the list are equal
abbrev pub AreApart : {K X : Type 0} → (K → K → Ordering) → List (K × X) → Type 0
AreApart R [] = Unit {0}
AreApart R (e ∷ es) = IsFresh R e.0 es × AreApart R es

-- no key of the first list is in the second
abbrev pub AreFresh : {K X : Type 0} → (K → K → Ordering) → List (K × X) → List (K × X) → Type 0
AreFresh R [] t = Unit {0}
AreFresh R (e ∷ es) t = IsFresh R e.0 t × AreFresh R es t

one_last : {K X : Type 0} (R : K → K → Ordering) → IsTotalOrder R → (k : K) (v : X) (t es : List (K × X)) → IsFresh R k es → inserted R (insert_entry R t k v) es ≡ insert_entry R (inserted R t es) k v
one_last R total k v t [] h = refl
one_last R total k v t (e ∷ es) h =
    rw (either_first R total k e.0 v e.1 t h.0) (one_last R total k v (insert_entry R t e.0 e.1) es h.1)

-- where an entry is put among those that are read doesn't matter
one_among : {K X : Type 0} (R N : K → K → Ordering) → IsTotalOrder R → (k : K) (v : X) (t xs : List (K × X)) → IsFresh R k xs → IsFresh N k xs → inserted R t (insert_entry N xs k v) ≡ insert_entry R (inserted R t xs) k v
one_among R N total k v t [] h n = refl
one_among R N total k v t (x ∷ xs) h n =
    by_order (N k x.0)
    (λ kx. simp kx (one_last R total k v t (x ∷ xs) h))
    (λ kx. absurd (let no_value : true ≡ false = sym (ap is_eq kx) ∙ n.0 in cc))
    (λ kx. simp kx (one_among R N total k v (insert_entry R t x.0 x.1) xs h.1 n.1))

-- what holds of each key holds with one more
all_with : {K X : Type 0} (P : K → Type 0) (N : K → K → Ordering) (k : K) (v : X) (xs : List (K × X)) → P k → AllByRecursion P (keys_of xs) → AllByRecursion P (keys_of (insert_entry N xs k v))
all_with P N k v [] p h = (p, tt)
all_with P N k v (x ∷ xs) p h =
    by_order (N k x.0) (λ kx. simp kx ((p, h))) (λ kx. simp kx h) (λ kx. simp kx ((h.0, all_with P N k v xs p h.1)))

-- ---- a whole list, in any order

kept_turned : (o : Ordering) → is_eq o ≡ false → is_eq (ordering_reverse o) ≡ false
kept_turned Less h = refl
kept_turned Equal h = h
kept_turned Greater h = refl

flipped : {K : Type 0} (R : K → K → Ordering) → IsTotalOrder R → (a b : K) → is_eq (R a b) ≡ false → is_eq (R b a) ≡ false
flipped R total a b h = rw (total.antisymm b a) (kept_turned (R a b) h)

flipped_all : {K X : Type 0} (R : K → K → Ordering) → IsTotalOrder R → (k : K) (es : List (K × X)) → IsFresh R k es → AllByRecursion (λ q. is_eq (R q k) ≡ false) (keys_of es)
flipped_all R total k [] h = tt
flipped_all R total k (e ∷ es) h = (flipped R total k e.0 h.0, flipped_all R total k es h.1)

fresh_with : {K X : Type 0} (R N : K → K → Ordering) (k : K) (v : X) (es t : List (K × X)) → AreFresh R es t → AllByRecursion (λ q. is_eq (R q k) ≡ false) (keys_of es) → AreFresh R es (insert_entry N t k v)
fresh_with R N k v [] t f h = tt
fresh_with R N k v (e ∷ es) t f h = (all_with (λ q. is_eq (R e.0 q) ≡ false) N k v t h.0 f.0, fresh_with R N k v es t f.1 h.1)

pub none_before : {K X : Type 0} (R : K → K → Ordering) (es : List (K × X)) → AreFresh R es []
none_before R [] = tt
none_before R (e ∷ es) = (tt, none_before R es)

all_among : {K X : Type 0} (R N : K → K → Ordering) → IsTotalOrder R → IsTotalOrder N → (t xs es : List (K × X)) → AreFresh R es xs → AreFresh N es xs → AreApart R es → AreApart N es → inserted R t (inserted N xs es) ≡ inserted R (inserted R t xs) es
all_among R N r n t xs [] fr fn ar an = refl
all_among R N r n t xs (e ∷ es) fr fn ar an =
    all_among R N r n t (insert_entry N xs e.0 e.1) es (fresh_with R N e.0 e.1 es xs fr.1 (flipped_all R r e.0 es ar.0)) (fresh_with N N e.0 e.1 es xs fn.1 (flipped_all N n e.0 es an.0)) ar.1 an.1
    ∙ ap (λ u. inserted R u es) (one_among R N r e.0 e.1 t xs fr.0 fn.0)

sorted_same : {K X : Type 0} (R : K → K → Ordering) → IsTotalOrder R → (done es : List (K × X)) → IsStrictlySortedBy R (keys_of (done ++ es)) → inserted R done es ≡ done ++ es
sorted_same R total done [] h = rw (append-nil done) refl
sorted_same R total done (e ∷ es) h =
    let same : (done ++ e ∷ []) ++ es ≡ done ++ e ∷ es = append_assoc done (e ∷ []) es in
    let sorted : IsStrictlySortedBy R (keys_of ((done ++ e ∷ []) ++ es)) = rw same h in
    rw (insert_last R total done e es h) (sorted_same R total (done ++ e ∷ []) es sorted ∙ same)

-- a table that is put in by another order and read again is the table
pub again : {K X : Type 0} (R N : K → K → Ordering) → IsTotalOrder R → IsTotalOrder N → (es : List (K × X)) → IsStrictlySortedBy R (keys_of es) → AreApart R es → AreApart N es → inserted R [] (inserted N [] es) ≡ es
again R N r n es sorted ar an =
    all_among R N r n [] [] es (none_before R es) (none_before N es) ar an ∙ sorted_same R r [] es sorted

-- ---- what is kept by the new order

tells_apart : {K X : Type 0} (R : K → K → Ordering) (k : K) (es : List (K × X)) → AllByRecursion (λ q. R k q ≡ Less) (keys_of es) → IsFresh R k es
tells_apart R k [] h = tt
tells_apart R k (e ∷ es) h = (ap is_eq h.0, tells_apart R k es h.1)

pub apart_sorted : {K X : Type 0} (R : K → K → Ordering) (es : List (K × X)) → IsStrictlySortedBy R (keys_of es) → AreApart R es
unfolding IsStrictlySortedBy
apart_sorted R [] h = tt
apart_sorted R (e ∷ es) h = (tells_apart R e.0 es h.0, apart_sorted R es h.1)

apart_with : {K X : Type 0} (R N : K → K → Ordering) → IsTotalOrder R → (k : K) (v : X) (xs : List (K × X)) → IsFresh R k xs → AreApart R xs → AreApart R (insert_entry N xs k v)
apart_with R N total k v [] f a = (tt, tt)
apart_with R N total k v (x ∷ xs) f a =
    by_order (N k x.0) (λ kx. simp kx ((f, a))) (λ kx. simp kx a)
    (λ kx. simp kx ((all_with (λ q. is_eq (R x.0 q) ≡ false) N k v xs (flipped R total k x.0 f.0) a.0, apart_with R N total k v xs f.1 a.1)))

pub apart_all : {K X : Type 0} (R N : K → K → Ordering) → IsTotalOrder R → (xs es : List (K × X)) → AreFresh R es xs → AreApart R es → AreApart R xs → AreApart R (inserted N xs es)
apart_all R N total xs [] f a b = b
apart_all R N total xs (e ∷ es) f a b =
    apart_all R N total (insert_entry N xs e.0 e.1) es (fresh_with R N e.0 e.1 es xs f.1 (flipped_all R total e.0 es a.0)) a.1 (apart_with R N total e.0 e.1 xs f.0 b)

pub fresh_read : {K X : Type 0} (R : K → K → Ordering) → IsTotalOrder R → (k : K) (v : X) (es t : List (K × X)) → AreFresh R es t → IsFresh R k es → AreFresh R es (insert_entry R t k v)
fresh_read R total k v es t f h = fresh_with R R k v es t f (flipped_all R total k es h)

-- what holds of each key and of each value
abbrev pub AllBoth : {K X : Type 0} → (K → Type 0) → (X → Type 0) → List (K × X) → Type 0
AllBoth P Q [] = Unit {0}
AllBoth P Q (e ∷ es) = P e.0 × Q e.1 × AllBoth P Q es

both_with : {K X : Type 0} (P : K → Type 0) (Q : X → Type 0) (N : K → K → Ordering) (k : K) (v : X) (xs : List (K × X)) → P k → Q v → AllBoth P Q xs → AllBoth P Q (insert_entry N xs k v)
both_with P Q N k v [] p q h = (p, q, tt)
both_with P Q N k v (x ∷ xs) p q h =
    by_order (N k x.0) (λ kx. simp kx ((p, q, h))) (λ kx. simp kx ((h.0, q, h.2))) (λ kx. simp kx ((h.0, h.1, both_with P Q N k v xs p q h.2)))

pub both_all : {K X : Type 0} (P : K → Type 0) (Q : X → Type 0) (N : K → K → Ordering) (xs es : List (K × X)) → AllBoth P Q xs → AllBoth P Q es → AllBoth P Q (inserted N xs es)
both_all P Q N xs [] h k = h
both_all P Q N xs (e ∷ es) h k = both_all P Q N (insert_entry N xs e.0 e.1) es (both_with P Q N e.0 e.1 xs k.0 k.1 h) k.2

pub both : {K X : Type 0} (P : K → Type 0) (Q : X → Type 0) (es : List (K × X)) → AllByRecursion P (keys_of es) → AllByRecursion Q (values_of es) → AllBoth P Q es
both P Q [] p q = tt
both P Q (e ∷ es) p q = (p.0, q.0, both P Q es p.1 q.1)

pub both_values : {X : Type 0} (P Q S : X → Type 0) → ((x : X) → P x → Q x → S x) → (xs : List X) → AllByRecursion P xs → AllByRecursion Q xs → AllByRecursion S xs
both_values P Q S f [] p q = tt
both_values P Q S f (x ∷ xs) p q = (f x p.0 q.0, both_values P Q S f xs p.1 q.1)

length_with : {K X : Type 0} (N : K → K → Ordering) (k : K) (v : X) (xs : List (K × X)) → length (insert_entry N xs k v) ≤ length xs + 1
length_with N k v [] = omega arith
length_with N k v (x ∷ xs) =
    let rest = length_with N k v xs in
    by_order (N k x.0) (λ kx. simp kx (omega arith)) (λ kx. simp kx (omega arith)) (λ kx. simp kx (omega arith))

length_all : {K X : Type 0} (N : K → K → Ordering) (xs es : List (K × X)) → length (inserted N xs es) ≤ length xs + length es
length_all N xs [] = omega arith
length_all N xs (e ∷ es) = omega (arith, length_all N (insert_entry N xs e.0 e.1) es, length_with N e.0 e.1 xs)

pub not_there : {K X : Type 0} (R : K → K → Ordering) (k : K) (es : List (K × X)) → IsFresh R k es → lookup (is_at (R k)) es ≡ None
not_there R k [] h = refl
not_there R k (e ∷ es) h = rw h.0 (not_there R k es h.1)

-- ---- members

-- the order of the names
abbrev pub name_cmp : {K : Type 0} → (K → List ℕ) → K → K → Ordering
name_cmp name a b = slice_cmp nat_cmp (name a) (name b)

-- a member for each entry at its name, in the order of the list
abbrev pub named : {K V : Type 0} → (K → List ℕ) → (V → Data) → List (K × V) → Members
named name json [] = no_members
named name json (e ∷ es) = member (name e.0) (json e.1) (named name json es)

put_named : {K V : Type 0} (name : K → List ℕ) (json : V → Data) (k : K) (v : V) (xs : List (K × V)) → put (name k) (json v) (named name json xs) ≡ named name json (insert_entry (name_cmp name) xs k v)
put_named name json k v [] = refl
put_named name json k v (x ∷ xs) =
    by_order (slice_cmp nat_cmp (name k) (name x.0)) (λ kx. simp kx) (λ kx. simp kx) (λ kx. simp kx (ap (member (name x.0) (json x.1)) (put_named name json k v xs)))

put_all : {K V : Type 0} (name : K → List ℕ) (json : V → Data) (xs es : List (K × V)) → with_entries name json (named name json xs) es ≡ named name json (inserted (name_cmp name) xs es)
put_all name json xs [] = refl
put_all name json xs (e ∷ es) =
    rw (put_named name json e.0 e.1 xs) (put_all name json (insert_entry (name_cmp name) xs e.0 e.1) es)

-- a table that is printed has its entries as members, in the order of their names
pub printed_named : {K V : Type 0} (name : K → List ℕ) (json : V → Data) (es : List (K × V)) → with_entries name json no_members es ≡ named name json (inserted (name_cmp name) [] es)
printed_named name json es = put_all name json [] es

named_length : {K V : Type 0} (name : K → List ℕ) (json : V → Data) (es : List (K × V)) → members_length (named name json es) ≡ length es
named_length name json [] = refl
named_length name json (e ∷ es) = ap (λ n. n + 1) (named_length name json es) ∙ omega arith

-- no more members than entries
pub no_more : {K V : Type 0} (name : K → List ℕ) (json : V → Data) (es : List (K × V)) → members_length (with_entries name json no_members es) ≤ length es
no_more name json es =
    rw (printed_named name json es, named_length name json (inserted (name_cmp name) [] es)) (omega (arith, length_all (name_cmp name) [] es))
