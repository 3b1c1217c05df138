-- Lists of entries in the order of their keys, around one entry.
use Rattle.std.proofs.Common.{ℕ, zero, suc, ◌≡◌, ◌∙◌, ◌<◌, ◌+◌, List, [], ◌∷◌, ◌++◌, ap, sym, length, take, drop, arith}
use Rattle.std.proofs.Math.ListN.{get_or}
use Rattle.std.proofs.lemmas.List.{take-append-drop, drop_more, take_more}
use Rattle.std.specs.Cmp.{IsTotalOrder}
use Rattle.std.specs.List.{AllByRecursion}
use Rattle.std.specs.List.Sorted.{IsStrictlySortedBy}
use Rattle.std.specs.Map.{keys_of}
use Rattle.std.specs.Ordering.{ordering_reverse}
use Rattle.std.specs.declared.cmp.Ordering.{Ordering}
use Rattle.std.specs.declared.cmp.Ordering.TheVariants.{Less, Equal, Greater}
use Rattle.shared_map.specs.Chunks.{AreBelow, AreAbove, IsHit}

pub all_map : {X : Type 0} {P Q : X → Type 0} → ((x : X) → P x → Q x) → (xs : List X) → AllByRecursion P xs → AllByRecursion Q xs
all_map f [] a = tt
all_map f (x ∷ xs) a = (f x a.0, all_map f xs a.1)

all_of_keys : {K V : Type 0} (P : K → Type 0) (es : List (K × V)) → AllByRecursion P (keys_of es) → AllByRecursion (λ e. P e.0) es
all_of_keys P [] a = tt
all_of_keys P (e ∷ es) a = (a.0, all_of_keys P es a.1)

seam : {K V : Type 0} (P : K → Type 0) (low : List (K × V)) (e : K × V) (high : List (K × V)) → AllByRecursion P (keys_of (low ++ e ∷ high)) → P e.0
seam P [] e high a = a.0
seam P (l ∷ low) e high a = seam P low e high a.1

-- the entries before one are below it, and those after it above
pub record Parts {K V : Type 0} (R : K → K → Ordering) (low : List (K × V)) (e : K × V) (high : List (K × V)) : Type 0 where
  pub low_below : AllByRecursion (λ y. R y.0 e.0 ≡ Less) low
  pub high_above : AllByRecursion (λ y. R e.0 y.0 ≡ Less) high

pub parts : {K V : Type 0} (R : K → K → Ordering) (low : List (K × V)) (e : K × V) (high : List (K × V)) → IsStrictlySortedBy R (keys_of (low ++ e ∷ high)) → Parts R low e high
unfolding IsStrictlySortedBy
parts R [] e high s = record { low_below = tt; high_above = all_of_keys (λ y. R e.0 y ≡ Less) high s.0 }
parts R (l ∷ low) e high s = let p = parts R low e high s.1 in record { low_below = (seam (λ y. R l.0 y ≡ Less) low e high s.0, p.low_below); high_above = p.high_above }

pub turned : {K : Type 0} (R : K → K → Ordering) → IsTotalOrder R → (x y : K) → R x y ≡ Greater → R y x ≡ Less
turned R o x y g = o.antisymm y x ∙ ap ordering_reverse g

pub turned_back : {K : Type 0} (R : K → K → Ordering) → IsTotalOrder R → (x y : K) → R x y ≡ Less → R y x ≡ Greater
turned_back R o x y l = o.antisymm y x ∙ ap ordering_reverse l

-- a key below an entry is below those after it
pub above_after : {K V : Type 0} (R : K → K → Ordering) → IsTotalOrder R → (k : K) (low : List (K × V)) (e : K × V) (high : List (K × V)) → IsStrictlySortedBy R (keys_of (low ++ e ∷ high)) → R k e.0 ≡ Less → AreAbove R k (e ∷ high)
above_after R o k low e high s l = (l, all_map (λ y a. o.trans k e.0 y.0 l a) high (parts R low e high s).high_above)

-- a key above an entry is above those before it
pub below_before : {K V : Type 0} (R : K → K → Ordering) → IsTotalOrder R → (k : K) (low : List (K × V)) (e : K × V) (high : List (K × V)) → IsStrictlySortedBy R (keys_of (low ++ e ∷ high)) → R k e.0 ≡ Greater → AreBelow R k low
below_before R o k low e high s g = all_map (λ y b. turned_back R o y.0 k (o.trans y.0 e.0 k b (turned R o k e.0 g))) low (parts R low e high s).low_below

-- a key equal to an entry's is above those before it, and below those after it
pub below_equal : {K V : Type 0} (R : K → K → Ordering) → IsTotalOrder R → (k : K) (low : List (K × V)) (e : K × V) (high : List (K × V)) → IsStrictlySortedBy R (keys_of (low ++ e ∷ high)) → R k e.0 ≡ Equal → AreBelow R k low
below_equal R o k low e high s q = all_map (λ y b. o.congr k e.0 y.0 q ∙ turned_back R o y.0 e.0 b) low (parts R low e high s).low_below

pub above_equal : {K V : Type 0} (R : K → K → Ordering) → IsTotalOrder R → (k : K) (low : List (K × V)) (e : K × V) (high : List (K × V)) → IsStrictlySortedBy R (keys_of (low ++ e ∷ high)) → R k e.0 ≡ Equal → AreAbove R k high
above_equal R o k low e high s q = all_map (λ y a. o.congr k e.0 y.0 q ∙ a) high (parts R low e high s).high_above

below_append : {K V : Type 0} (R : K → K → Ordering) (k : K) (low : List (K × V)) (e : K × V) → AreBelow R k low → R k e.0 ≡ Greater → AreBelow R k (low ++ e ∷ [])
below_append R k [] e b g = (g, tt)
below_append R k (l ∷ low) e b g = (b.0, below_append R k low e b.1 g)

-- a list around the item at an index
pub whole : {X : Type 0} (xs : List X) (i : ℕ) (x : X) → i < length xs → x ≡ get_or xs i x → xs ≡ take i xs ++ x ∷ drop (i + 1) xs
whole xs i x h e = sym (take-append-drop i xs) ∙ ap (λ t. take i xs ++ t) (drop_more xs i x h ∙ ap (λ y. y ∷ drop (i + 1) xs) (sym e))

pub at_any : {X : Type 0} (xs : List X) (i : ℕ) (x d : X) → i < length xs → x ≡ get_or xs i x → get_or xs i d ≡ x
at_any [] i x d h e = absurd (omega arith)
at_any (y ∷ xs) zero x d h e = sym e
at_any (y ∷ xs) (suc i) x d h e = at_any xs i x d (omega (arith, h)) e

-- the three ways in which a key compares to the entry at an index
pub found_here : {K V : Type 0} (R : K → K → Ordering) → IsTotalOrder R → (k : K) (es : List (K × V)) (i : ℕ) (e : K × V) → IsStrictlySortedBy R (keys_of es) → i < length es → e ≡ get_or es i e → R k e.0 ≡ Equal → IsHit R k es i
found_here R o k es i e s h at q =
    let all = whole es i e h at in
    record {
      within = h;
      below = below_equal R o k (take i es) e (drop (i + 1) es) (rw all at s) q;
      equal = λ d. rw (at_any es i e d h at) q;
      above = above_equal R o k (take i es) e (drop (i + 1) es) (rw all at s) q;
    }

pub above_here : {K V : Type 0} (R : K → K → Ordering) → IsTotalOrder R → (k : K) (es : List (K × V)) (i : ℕ) (e : K × V) → IsStrictlySortedBy R (keys_of es) → i < length es → e ≡ get_or es i e → R k e.0 ≡ Less → AreAbove R k (drop i es)
above_here R o k es i e s h at l =
    let all = whole es i e h at in
    rw (drop_more es i e h ∙ ap (λ y. y ∷ drop (i + 1) es) (sym at)) (above_after R o k (take i es) e (drop (i + 1) es) (rw all at s) l)

pub below_here : {K V : Type 0} (R : K → K → Ordering) → IsTotalOrder R → (k : K) (es : List (K × V)) (i : ℕ) (e : K × V) → IsStrictlySortedBy R (keys_of es) → i < length es → e ≡ get_or es i e → R k e.0 ≡ Greater → AreBelow R k (take (i + 1) es)
below_here R o k es i e s h at g =
    let all = whole es i e h at in
    rw (take_more es i e h ∙ ap (λ y. take i es ++ y ∷ []) (sym at)) (below_append R k (take i es) e (below_before R o k (take i es) e (drop (i + 1) es) (rw all at s) g) g)

-- two reads of one item
pub same_item : {X : Type 0} (xs ys : List X) (i : ℕ) (x y d : X) → i < length xs → xs ≡ ys → x ≡ get_or xs i x → y ≡ get_or ys i y → x ≡ y
same_item xs ys i x y d h e p q = sym (at_any xs i x d h p) ∙ ap (λ l. get_or l i d) e ∙ at_any ys i y d (rw e at h) q
