-- Slices in the order of their pools, and those of one pool among them.
use Rattle.std.proofs.Common.{ℕ, zero, suc, ◌<◌, ◌≡◌, ◌∙◌, List, [], ◌∷◌, Bool, true, false, cond, ◌&&◌, drop, get_or, length, take, refl, sym, ap, subst, arith}
use Rattle.std.specs.Prelude.{filter}
use Rattle.std.specs.List.{AllByRecursion, AllPairs, AllWithin}
use Rattle.std.specs.List.Sorted.{IsPartitionPoint, IsPartitionedBy}
use Rattle.std.specs.Ordering.{is_gt, is_lt}
use Rattle.std.specs.declared.cmp.Ordering.{Ordering}
use Rattle.std.specs.declared.cmp.Ordering.TheVariants.{Less, Equal, Greater}
use Rattle.api_slice.specs.declared.types.ResourceSlice.{ResourceSlice}
use Rattle.pool_view.specs.declared.inventory.Inventory.{Inventory}
use Rattle.pool_view.specs.declared.names.PoolName.{PoolName}
use Rattle.pool_view.specs.Names.{text_eq}
use Rattle.pool_view.specs.OnePool.{AreByPool, is_before, is_in}
use Rattle.pool_view.specs.Usable.{counted_slices, is_counted, pool_cmp, pool_named, pools, usable_slices}
use Rattle.pool_view.proofs.Differ.{Before, OfPool, block, block_of_pool, is_pool, pool_total, pools_rise}
use Rattle.pool_view.proofs.Pairs.{Pairwise, all_imply, all_pairs_by, pairs_filter, pairs_flat}
use Rattle.pool_view.proofs.PoolGroups.{pools_exact}

-- ---- pairs by index

all_index : {X : Type 0} (P : X → Type 0) (xs : List X) (j : ℕ) (d : X) → AllByRecursion P xs → j < length xs → P (get_or xs j d)
all_index P [] j d h lt = absurd (omega (arith, lt))
all_index P (x ∷ xs) zero d h lt = h.0
all_index P (x ∷ xs) (suc j) d h lt = all_index P xs j d h.1 (omega (arith, lt))

index_all : {X : Type 0} (P : X → Type 0) (xs : List X) → ((j : ℕ) (d : X) → j < length xs → P (get_or xs j d)) → AllByRecursion P xs
index_all P [] h = tt
index_all P (x ∷ xs) h = (h 0 x (omega arith), index_all P xs (λ j d lt. h (suc j) d (omega (arith, lt))))

all_pairs : {X : Type 0} (R : X → X → Type 0) (xs : List X) → Pairwise R xs → AllPairs R xs
all_pairs R [] h i j d lt within = absurd (omega (arith, within))
all_pairs R (x ∷ xs) h i zero d lt within = absurd (omega (arith, lt))
all_pairs R (x ∷ xs) h zero (suc j) d lt within = all_index (R x) xs j d h.0 (omega (arith, within))
all_pairs R (x ∷ xs) h (suc i) (suc j) d lt within = all_pairs R xs h.1 i j d (omega (arith, lt)) (omega (arith, within))

pairs_all : {X : Type 0} (R : X → X → Type 0) (xs : List X) → AllPairs R xs → Pairwise R xs
pairs_all R [] h = tt
pairs_all R (x ∷ xs) h =
    (index_all (R x) xs (λ j d within. h 0 (suc j) d (omega arith) (omega (arith, within))), pairs_all R xs (λ i j d lt within. h (suc i) (suc j) d (omega (arith, lt)) (omega (arith, within))))

parted : {X : Type 0} (p : X → Bool) (R : X → X → Type 0) (xs : List X) → ((x y : X) → R x y → p y ≡ true → p x ≡ true) → Pairwise R xs → IsPartitionedBy p xs
parted p R [] f h i j d le within e = absurd (omega (arith, within))
parted p R (x ∷ xs) f h zero zero d le within e = e
parted p R (x ∷ xs) f h (suc i) zero d le within e = absurd (omega (arith, le))
parted p R (x ∷ xs) f h zero (suc j) d le within e = f x (get_or xs j d) (all_index (R x) xs j d h.0 (omega (arith, within))) e
parted p R (x ∷ xs) f h (suc i) (suc j) d le within e = parted p R xs f h.1 i j d (omega (arith, le)) (omega (arith, within)) e

-- ---- the items from an index on

both_all : {X : Type 0} (Q : Type 0) (P : X → Type 0) (xs : List X) → Q → AllByRecursion P xs → AllByRecursion (λ x. Q × P x) xs
both_all Q P [] q h = tt
both_all Q P (x ∷ xs) q h = ((q, h.0), both_all Q P xs q h.1)

-- each item and each later one of these, of each of which another fact holds
later : {X : Type 0} (P : X → Type 0) (R : X → X → Type 0) (xs : List X) (n : ℕ) → AllWithin P xs n (length xs) → Pairwise R xs → Pairwise (λ x y. P x × R x y) (drop n xs)
later P R [] zero g h = tt
later P R [] (suc n) g h = tt
later P R (x ∷ xs) zero g h =
    (both_all (P x) (R x) xs (g 0 x (omega arith) (omega arith)) h.0, later P R xs 0 (λ k d low within. g (suc k) d (omega arith) (omega (arith, within))) h.1)
later P R (x ∷ xs) (suc n) g h = later P R xs n (λ k d low within. g (suc k) d (omega (arith, low)) (omega (arith, within))) h.1

-- the items before an index don't pass
passed_over : {X : Type 0} (p : X → Bool) (xs : List X) (n : ℕ) → AllWithin (λ x. p x ≡ false) xs 0 n → filter p xs ≡ filter p (drop n xs)
passed_over p [] zero h = refl
passed_over p [] (suc n) h = refl
passed_over p (x ∷ xs) zero h = refl
passed_over p (x ∷ xs) (suc n) h =
    ap (λ (b : Bool). cond b (x ∷ filter p xs) (filter p xs)) (h 0 x (omega arith) (omega arith)) ∙ passed_over p xs n (λ k d low lt. h (suc k) d (omega arith) (omega (arith, lt)))

take_none : {X : Type 0} (xs : List X) → take 0 xs ≡ []
take_none [] = refl
take_none (x ∷ xs) = refl

-- those that pass are the first ones
first_ones : {X : Type 0} (p : X → Bool) (xs : List X) (n : ℕ) → AllWithin (λ x. p x ≡ true) xs 0 n → AllWithin (λ x. p x ≡ false) xs n (length xs) → filter p xs ≡ take n xs
first_ones p [] zero g h = refl
first_ones p [] (suc n) g h = refl
first_ones p (x ∷ xs) zero g h =
    ap (λ (b : Bool). cond b (x ∷ filter p xs) (filter p xs)) (h 0 x (omega arith) (omega arith)) ∙ first_ones p xs 0 (λ k d low lt. absurd (omega (arith, lt))) (λ k d low within. h (suc k) d (omega arith) (omega (arith, within)))
    ∙ take_none xs ∙ sym (take_none (x ∷ xs))
first_ones {X} p (x ∷ xs) (suc n) g h =
    ap (λ (b : Bool). cond b (x ∷ filter p xs) (filter p xs)) (g 0 x (omega arith) (omega arith))
    ∙ ap (λ (l : List X). x ∷ l) (first_ones p xs n (λ k d low lt. g (suc k) d (omega arith) (omega (arith, lt))) (λ k d low within. h (suc k) d (omega (arith, low)) (omega (arith, within))))

-- ---- in the order of pools

abbrev NotAfter : ResourceSlice → ResourceSlice → Type 0
NotAfter x y = is_gt (pool_cmp (pool_named x) (pool_named y)) ≡ false

less_by : (o : Ordering) → o ≡ Less → is_gt o ≡ false
less_by o e = ap is_gt e

alike : (p : PoolName) (x y : ResourceSlice) → OfPool p x → OfPool p y → NotAfter x y
alike p x y f g =
    ap (λ (q : PoolName). is_gt (pool_cmp q (pool_named y))) f ∙ ap (λ (q : PoolName). is_gt (pool_cmp p q)) g ∙ ap is_gt (pools_exact.equal p)

apart : (p q : PoolName) → Before p q → (x y : ResourceSlice) → OfPool p x → OfPool q y → NotAfter x y
apart p q less x y f g =
    ap (λ (r : PoolName). is_gt (pool_cmp r (pool_named y))) f ∙ ap (λ (r : PoolName). is_gt (pool_cmp p r)) g ∙ less_by (pool_cmp p q) less

each_pair : {X : Type 0} (P : X → Type 0) (R : X → X → Type 0) (xs : List X) → ((x y : X) → P x → P y → R x y) → AllByRecursion P xs → Pairwise R xs
each_pair P R [] f h = tt
each_pair P R (x ∷ xs) f h = (all_imply P (R x) xs (λ y. f x y h.0) h.1, each_pair P R xs f h.1)

usable_by_pool : (i : Inventory) → Pairwise NotAfter (usable_slices i)
unfolding usable_slices
usable_by_pool i =
    pairs_flat Before NotAfter (block i.slices) (pools i.slices) (λ p. each_pair (OfPool p) NotAfter (block i.slices p) (alike p) (block_of_pool i.slices p))
    (λ p q less. all_pairs_by (OfPool p) (OfPool q) NotAfter (block i.slices p) (block i.slices q) (apart p q less) (block_of_pool i.slices p) (block_of_pool i.slices q)) (pools_rise i.slices [] tt)

pub counted_by_pool : (i : Inventory) → AreByPool (counted_slices i)
unfolding counted_slices
counted_by_pool i = all_pairs NotAfter (counted_slices i) (pairs_filter NotAfter is_counted (usable_slices i) (usable_by_pool i))

-- ---- those before a pool, and then those of it

lt_less : (o : Ordering) → is_lt o ≡ true → o ≡ Less
lt_less Less e = refl
lt_less Equal e = absurd (cc)
lt_less Greater e = absurd (cc)

before_by : (o : Ordering) (a b q : PoolName) → pool_cmp a b ≡ o → is_gt o ≡ false → pool_cmp b q ≡ Less → pool_cmp a q ≡ Less
before_by Less a b q e g l = pool_total.trans a b q e l
before_by Equal a b q e g l = subst (λ (p : PoolName). pool_cmp p q ≡ Less) (sym (pools_exact.same a b e)) l
before_by Greater a b q e g l = absurd (cc)

before_too : (driver pool : List ℕ) (x y : ResourceSlice) → NotAfter x y → is_before driver pool y ≡ true → is_before driver pool x ≡ true
before_too driver pool x y h e =
    let q : PoolName = record { driver = driver; pool = pool } in
    ap is_lt (before_by (pool_cmp (pool_named x) (pool_named y)) (pool_named x) (pool_named y) q refl h (lt_less (pool_cmp (pool_named y) q) e))

pub parted_before : (driver pool : List ℕ) (xs : List ResourceSlice) → AreByPool xs → IsPartitionedBy (is_before driver pool) xs
parted_before driver pool xs h = parted (is_before driver pool) NotAfter xs (before_too driver pool) (pairs_all NotAfter xs h)

-- it isn't before the pool
abbrev IsNotBefore : (driver pool : List ℕ) → ResourceSlice → Type 0
IsNotBefore driver pool x = is_before driver pool x ≡ false

of_by : (o : Ordering) (driver pool : List ℕ) (x y : ResourceSlice) → pool_cmp (pool_named x) (pool_named y) ≡ o → is_gt o ≡ false → IsNotBefore driver pool x → is_in driver pool y ≡ true → is_in driver pool x ≡ true
of_by Less driver pool x y e g n h =
    let q : PoolName = record { driver = driver; pool = pool } in
    let wrong : is_lt (pool_cmp (pool_named x) q) ≡ true = ap (λ (p : PoolName). is_lt (pool_cmp (pool_named x) p)) (sym (is_pool y q h)) ∙ ap is_lt e in
    absurd (cc)
of_by Equal driver pool x y e g n h = ap (λ (p : PoolName). text_eq p.driver driver && text_eq p.pool pool) (pools_exact.same (pool_named x) (pool_named y) e) ∙ h
of_by Greater driver pool x y e g n h = absurd (cc)

pub parted_in : (driver pool : List ℕ) (xs rest : List ResourceSlice) (n : ℕ) → AreByPool xs → AllWithin (IsNotBefore driver pool) xs n (length xs) → rest ≡ drop n xs → IsPartitionedBy (is_in driver pool) rest
parted_in driver pool xs rest n h none e =
    subst (λ (l : List ResourceSlice). IsPartitionedBy (is_in driver pool) l) (sym e)
    (parted (is_in driver pool) (λ x y. IsNotBefore driver pool x × NotAfter x y) (drop n xs) (λ x y both. of_by (pool_cmp (pool_named x) (pool_named y)) driver pool x y refl both.1 both.0)
    (later (IsNotBefore driver pool) NotAfter xs n none (pairs_all NotAfter xs h)))

not_by : (b : Bool) (driver pool : List ℕ) (x : ResourceSlice) → is_in driver pool x ≡ b → is_before driver pool x ≡ true → b ≡ false
not_by true driver pool x e h =
    let q : PoolName = record { driver = driver; pool = pool } in
    let wrong : is_lt Equal ≡ true = ap is_lt (sym (pools_exact.equal q)) ∙ ap (λ (p : PoolName). is_lt (pool_cmp p q)) (sym (is_pool x q e)) ∙ h in
    absurd (cc)
not_by false driver pool x e h = refl

pub those_of : (driver pool : List ℕ) (xs rest out : List ResourceSlice) (n m : ℕ) → IsPartitionPoint (λ x. is_before driver pool x ≡ true) (λ x. is_before driver pool x ≡ false) xs n → rest ≡ drop n xs
    → IsPartitionPoint (λ x. is_in driver pool x ≡ true) (λ x. is_in driver pool x ≡ false) rest m → out ≡ take m rest → out ≡ filter (is_in driver pool) xs
those_of driver pool xs rest out n m before e within f =
    f ∙ sym (first_ones (is_in driver pool) rest m within.0 within.1) ∙ ap (filter (is_in driver pool)) e
    ∙ sym (passed_over (is_in driver pool) xs n (λ k d low lt. not_by (is_in driver pool (get_or xs k d)) driver pool (get_or xs k d) refl (before.0 k d low lt)))
