-- Which slices of a pool are usable depends on its own slices alone.
use Rattle.std.proofs.Common.{ℕ, ◌+◌, ◌≤◌, ◌≡◌, ◌∙◌, List, [], ◌∷◌, ◌++◌, Bool, true, false, cond, ◌||◌, Option, None, Some, length, refl, sym, ap, subst, arith, append_assoc, append-nil}
use Rattle.std.specs.Prelude.{IfSome, filter}
use Rattle.std.specs.List.{AllByRecursion, flat_map, list_any}
use Rattle.std.specs.List.Sorted.{IsStrictlySortedBy}
use Rattle.std.specs.BTreeMap.{insert_entry, is_at}
use Rattle.std.specs.BTreeSet.{insert_key}
use Rattle.std.specs.Map.{keys_of, remove_entry, set_value}
use Rattle.std.specs.Cmp.Lexicographic.{nat_list_cmp_total}
use Rattle.std.specs.Ordering.{is_eq, match_ordering, ordering_reverse}
use Rattle.std.specs.declared.cmp.Ordering.{Ordering}
use Rattle.std.specs.declared.cmp.Ordering.TheVariants.{Less, Equal, Greater}
use Rattle.std.proofs.lemmas.Bool.{le-leb, leb-true}
use Rattle.std.proofs.lemmas.List.Elements.{filter-append}
use Rattle.api_slice.specs.declared.types.ResourceSlice.{ResourceSlice}
use Rattle.pool_view.specs.declared.inventory.Inventory.{Inventory}
use Rattle.pool_view.specs.declared.names.PoolName.{PoolName}
use Rattle.pool_view.specs.declared.stored.Stored.{Stored}
use Rattle.pool_view.specs.Inventory.{AtOwnNames, IsKept, Named, created, device_count, devices_most, has_room_for, put_by, updated, with_named, with_slice, without_named, without_slice}
use Rattle.pool_view.specs.Names.{at_name, text_cmp}
use Rattle.pool_view.specs.OnePool.{AreInOrder, IsElsewhere, is_in, only_pool, stored_in}
use Rattle.pool_view.specs.Pools.{is_usable, newest, pool_of, slices_of}
use Rattle.pool_view.specs.Usable.{if_usable, pool_cmp, pool_named, pools, pools_with, usable_slices}
use Rattle.pool_view.proofs.Differ.{Before, OfPool, block, block_of_pool, pools_rise}
use Rattle.pool_view.proofs.Pairs.{Pairwise, all_imply}
use Rattle.pool_view.proofs.PoolGroups.{is_of, pools_exact, text_same}

-- ---- the slices of a pool, among all and alone

kept_by : (d p : List ℕ) (b : Bool) (e : List ℕ × Stored ResourceSlice) (fs es : Named ResourceSlice) → is_in d p e.1.object ≡ b → slices_of d p fs ≡ slices_of d p es
    → slices_of d p (cond b (e ∷ fs) fs) ≡ cond b (e.1.object ∷ slices_of d p es) (slices_of d p es)
kept_by d p true e fs es is h = ap (λ (c : Bool). cond c (e.1.object ∷ slices_of d p fs) (slices_of d p fs)) is ∙ ap (λ (xs : List ResourceSlice). e.1.object ∷ xs) h
kept_by d p false e fs es is h = h

pub same_stored : (d p : List ℕ) (es : Named ResourceSlice) → slices_of d p (stored_in d p es) ≡ slices_of d p es
unfolding stored_in
same_stored d p [] = refl
same_stored d p (e ∷ es) = kept_by d p (is_in d p e.1.object) e (stored_in d p es) es refl (same_stored d p es)

-- ---- the names are in order

abbrev pub Above : List ℕ → Named ResourceSlice → Type 0
Above n es = AllByRecursion (λ y. text_cmp n y ≡ Less) (keys_of es)

abbrev pub Rising : Named ResourceSlice → Type 0
Rising es = IsStrictlySortedBy text_cmp (keys_of es)

above_by : (n : List ℕ) (b : Bool) (e : List ℕ × Stored ResourceSlice) (fs : Named ResourceSlice) → text_cmp n e.0 ≡ Less → Above n fs → Above n (cond b (e ∷ fs) fs)
above_by n true e fs less h = (less, h)
above_by n false e fs less h = h

pub above_in : (d p n : List ℕ) (es : Named ResourceSlice) → Above n es → Above n (stored_in d p es)
unfolding stored_in
above_in d p n [] h = tt
above_in d p n (e ∷ es) h = above_by n (is_in d p e.1.object) e (stored_in d p es) h.0 (above_in d p n es h.1)

pub above_lower : (n m : List ℕ) (es : Named ResourceSlice) → text_cmp n m ≡ Less → Above m es → Above n es
above_lower n m es less h = all_imply (λ y. text_cmp m y ≡ Less) (λ y. text_cmp n y ≡ Less) (keys_of es) (λ y l. nat_list_cmp_total.trans n m y less l) h

rising_by : (b : Bool) (e : List ℕ × Stored ResourceSlice) (fs : Named ResourceSlice) → Above e.0 fs → Rising fs → Rising (cond b (e ∷ fs) fs)
unfolding IsStrictlySortedBy
rising_by true e fs above h = (above, h)
rising_by false e fs above h = h

pub rising_in : (d p : List ℕ) (es : Named ResourceSlice) → Rising es → Rising (stored_in d p es)
unfolding IsStrictlySortedBy stored_in
rising_in d p [] h = tt
rising_in d p (e ∷ es) h = rising_by (is_in d p e.1.object) e (stored_in d p es) (above_in d p e.0 es h.0) (rising_in d p es h.1)

pub front : (n : List ℕ) (v : Stored ResourceSlice) (es : Named ResourceSlice) → Above n es → insert_entry text_cmp es n v ≡ (n, v) ∷ es
front n v [] h = refl
front n v (e ∷ es) h = ap (λ (o : Ordering). match_ordering o ((n, v) ∷ e ∷ es) ((e.0, v) ∷ es) (e ∷ insert_entry text_cmp es n v)) h.0

pub none_above : (n : List ℕ) (es : Named ResourceSlice) → Above n es → at_name es n ≡ None
none_above n [] h = refl
none_above n (e ∷ es) h = ap (λ (o : Ordering). cond (is_eq o) (Some e.1) (at_name es n)) h.0 ∙ none_above n es h.1

pub none_gone : (n : List ℕ) (es : Named ResourceSlice) → Above n es → remove_entry (is_at (text_cmp n)) es ≡ es
none_gone n [] h = refl
none_gone n (e ∷ es) h = ap (λ (o : Ordering). cond (is_eq o) es (e ∷ remove_entry (is_at (text_cmp n)) es)) h.0 ∙ ap (λ (fs : Named ResourceSlice). e ∷ fs) (none_gone n es h.1)

-- ---- a slice is put, whether its name is there or not

head : (d p : List ℕ) → ResourceSlice → List ResourceSlice → List ResourceSlice
head d p x xs = cond (is_in d p x) (x ∷ xs) xs

set_by : (o : Ordering) (d p n : List ℕ) (old v w : Stored ResourceSlice) (e : List ℕ × Stored ResourceSlice) (es : Named ResourceSlice) → text_cmp n e.0 ≡ o → v.object ≡ w.object → Above e.0 es
    → cond (is_eq o) (Some e.1) (at_name es n) ≡ Some old
    → (at_name es n ≡ Some old → slices_of d p (set_value (is_at (text_cmp n)) es v) ≡ slices_of d p (insert_entry text_cmp es n w))
    → slices_of d p (cond (is_eq o) ((e.0, v) ∷ es) (e ∷ set_value (is_at (text_cmp n)) es v)) ≡ slices_of d p (match_ordering o ((n, w) ∷ e ∷ es) ((e.0, w) ∷ es) (e ∷ insert_entry text_cmp es n w))
unfolding head
set_by Less d p n old v w e es is same above at later = absurd (let none = none_above n es (above_lower n e.0 es is above) in let wrong = sym none ∙ at in cc)
set_by Equal d p n old v w e es is same above at later = ap (λ (x : ResourceSlice). head d p x (slices_of d p es)) same
set_by Greater d p n old v w e es is same above at later = ap (λ (xs : List ResourceSlice). head d p e.1.object xs) (later at)

set_same : (d p n : List ℕ) (old v w : Stored ResourceSlice) (es : Named ResourceSlice) → v.object ≡ w.object → Rising es → at_name es n ≡ Some old
    → slices_of d p (set_value (is_at (text_cmp n)) es v) ≡ slices_of d p (insert_entry text_cmp es n w)
unfolding IsStrictlySortedBy
set_same d p n old v w [] same h at = absurd (cc)
set_same d p n old v w (e ∷ es) same h at = set_by (text_cmp n e.0) d p n old v w e es refl same h.0 at (λ there. set_same d p n old v w es same h.1 there)

put_same : (d p n : List ℕ) (k : ℕ) (x : ResourceSlice) (es : Named ResourceSlice) (o : Option (Stored ResourceSlice)) → at_name es n ≡ o → Rising es
    → slices_of d p (put_by k n x es o) ≡ slices_of d p (insert_entry text_cmp es n (created k x))
put_same d p n k x es None at h = refl
put_same d p n k x es (Some old) at h = set_same d p n old (updated k x old) (created k x) es refl h at

-- ---- what is put into a pool's slices alone

equal_in : (b : Bool) (d p n : List ℕ) (v : Stored ResourceSlice) (e : List ℕ × Stored ResourceSlice) (es fs : Named ResourceSlice) → text_cmp n e.0 ≡ Equal → Above n fs → slices_of d p fs ≡ slices_of d p es
    → slices_of d p ((e.0, v) ∷ es) ≡ slices_of d p (insert_entry text_cmp (cond b (e ∷ fs) fs) n v)
unfolding head
equal_in true d p n v e es fs is above h =
    ap (λ (xs : List ResourceSlice). head d p v.object xs) (sym h)
    ∙ sym (ap (λ (o : Ordering). slices_of d p (match_ordering o ((n, v) ∷ e ∷ fs) ((e.0, v) ∷ fs) (e ∷ insert_entry text_cmp fs n v))) is)
equal_in false d p n v e es fs is above h = ap (λ (xs : List ResourceSlice). head d p v.object xs) (sym h) ∙ ap (slices_of d p) (sym (front n v fs above))

greater_in : (b : Bool) (d p n : List ℕ) (v : Stored ResourceSlice) (e : List ℕ × Stored ResourceSlice) (es fs : Named ResourceSlice) → is_in d p e.1.object ≡ b → text_cmp n e.0 ≡ Greater
    → slices_of d p (insert_entry text_cmp es n v) ≡ slices_of d p (insert_entry text_cmp fs n v)
    → slices_of d p (e ∷ insert_entry text_cmp es n v) ≡ slices_of d p (insert_entry text_cmp (cond b (e ∷ fs) fs) n v)
unfolding head
greater_in true d p n v e es fs b is h =
    ap (λ (xs : List ResourceSlice). head d p e.1.object xs) h
    ∙ sym (ap (λ (o : Ordering). slices_of d p (match_ordering o ((n, v) ∷ e ∷ fs) ((e.0, v) ∷ fs) (e ∷ insert_entry text_cmp fs n v))) is)
greater_in false d p n v e es fs b is h = ap (λ (c : Bool). cond c (e.1.object ∷ slices_of d p (insert_entry text_cmp es n v)) (slices_of d p (insert_entry text_cmp es n v))) b ∙ h

in_by : (o : Ordering) (d p n : List ℕ) (v : Stored ResourceSlice) (e : List ℕ × Stored ResourceSlice) (es : Named ResourceSlice) → text_cmp n e.0 ≡ o → Above e.0 es
    → slices_of d p (insert_entry text_cmp es n v) ≡ slices_of d p (insert_entry text_cmp (stored_in d p es) n v)
    → slices_of d p (match_ordering o ((n, v) ∷ e ∷ es) ((e.0, v) ∷ es) (e ∷ insert_entry text_cmp es n v)) ≡ slices_of d p (insert_entry text_cmp (stored_in d p (e ∷ es)) n v)
unfolding head stored_in
in_by Less d p n v e es is above later =
    ap (λ (xs : List ResourceSlice). head d p v.object xs) (sym (same_stored d p (e ∷ es)))
    ∙ ap (slices_of d p) (sym (front n v (stored_in d p (e ∷ es)) (above_in d p n (e ∷ es) (is, above_lower n e.0 es is above))))
in_by Equal d p n v e es is above later =
    equal_in (is_in d p e.1.object) d p n v e es (stored_in d p es) is (above_in d p n es (subst (λ m. Above m es) (sym (text_same n e.0 is)) above)) (same_stored d p es)
in_by Greater d p n v e es is above later = greater_in (is_in d p e.1.object) d p n v e es (stored_in d p es) refl is later

put_in : (d p n : List ℕ) (v : Stored ResourceSlice) (es : Named ResourceSlice) → Rising es → slices_of d p (insert_entry text_cmp es n v) ≡ slices_of d p (insert_entry text_cmp (stored_in d p es) n v)
unfolding IsStrictlySortedBy stored_in
put_in d p n v [] h = refl
put_in d p n v (e ∷ es) h = in_by (text_cmp n e.0) d p n v e es refl h.0 (put_in d p n v es h.1)

with_same : (d p : List ℕ) (k : ℕ) (x : ResourceSlice) (es : Named ResourceSlice) → Rising es → slices_of d p (with_named k x.name x es) ≡ slices_of d p (with_named k x.name x (stored_in d p es))
with_same d p k x es h =
    put_same d p x.name k x es (at_name es x.name) refl h ∙ put_in d p x.name (created k x) es h
    ∙ sym (put_same d p x.name k x (stored_in d p es) (at_name (stored_in d p es) x.name) refl (rising_in d p es h))

-- ---- what is removed from a pool's slices alone

gone_at : (b : Bool) (d p n : List ℕ) (e : List ℕ × Stored ResourceSlice) (es fs : Named ResourceSlice) → is_at (text_cmp n) e.0 ≡ true → Above n fs → slices_of d p fs ≡ slices_of d p es
    → slices_of d p es ≡ slices_of d p (remove_entry (is_at (text_cmp n)) (cond b (e ∷ fs) fs))
gone_at true d p n e es fs is above h = sym h ∙ sym (ap (λ (c : Bool). slices_of d p (cond c fs (e ∷ remove_entry (is_at (text_cmp n)) fs))) is)
gone_at false d p n e es fs is above h = sym h ∙ ap (slices_of d p) (sym (none_gone n fs above))

gone_later : (b : Bool) (d p n : List ℕ) (e : List ℕ × Stored ResourceSlice) (es fs : Named ResourceSlice) → is_in d p e.1.object ≡ b → is_at (text_cmp n) e.0 ≡ false
    → slices_of d p (remove_entry (is_at (text_cmp n)) es) ≡ slices_of d p (remove_entry (is_at (text_cmp n)) fs)
    → slices_of d p (e ∷ remove_entry (is_at (text_cmp n)) es) ≡ slices_of d p (remove_entry (is_at (text_cmp n)) (cond b (e ∷ fs) fs))
unfolding head
gone_later true d p n e es fs b is h =
    ap (λ (xs : List ResourceSlice). head d p e.1.object xs) h ∙ sym (ap (λ (c : Bool). slices_of d p (cond c fs (e ∷ remove_entry (is_at (text_cmp n)) fs))) is)
gone_later false d p n e es fs b is h =
    ap (λ (c : Bool). cond c (e.1.object ∷ slices_of d p (remove_entry (is_at (text_cmp n)) es)) (slices_of d p (remove_entry (is_at (text_cmp n)) es))) b ∙ h

pub equal_at : (o : Ordering) → is_eq o ≡ true → o ≡ Equal
equal_at Less e = absurd (cc)
equal_at Equal e = refl
equal_at Greater e = absurd (cc)

gone_by : (c : Bool) (d p n : List ℕ) (e : List ℕ × Stored ResourceSlice) (es : Named ResourceSlice) → is_at (text_cmp n) e.0 ≡ c → Above e.0 es
    → slices_of d p (remove_entry (is_at (text_cmp n)) es) ≡ slices_of d p (remove_entry (is_at (text_cmp n)) (stored_in d p es))
    → slices_of d p (cond c es (e ∷ remove_entry (is_at (text_cmp n)) es)) ≡ slices_of d p (remove_entry (is_at (text_cmp n)) (stored_in d p (e ∷ es)))
unfolding stored_in
gone_by true d p n e es is above later =
    gone_at (is_in d p e.1.object) d p n e es (stored_in d p es) is (above_in d p n es (subst (λ m. Above m es) (sym (text_same n e.0 (equal_at (text_cmp n e.0) is))) above)) (same_stored d p es)
gone_by false d p n e es is above later = gone_later (is_in d p e.1.object) d p n e es (stored_in d p es) refl is later

gone_in : (d p n : List ℕ) (es : Named ResourceSlice) → Rising es → slices_of d p (remove_entry (is_at (text_cmp n)) es) ≡ slices_of d p (remove_entry (is_at (text_cmp n)) (stored_in d p es))
unfolding IsStrictlySortedBy stored_in
gone_in d p n [] h = refl
gone_in d p n (e ∷ es) h = gone_by (is_at (text_cmp n) e.0) d p n e es refl h.0 (gone_in d p n es h.1)

-- ---- a slice that isn't of the pool

abbrev pub Elsewhere : (d p : List ℕ) → Option (Stored ResourceSlice) → Type 0
Elsewhere d p o = IfSome o (λ s. is_in d p s.object ≡ false)

out : (d p : List ℕ) (x : ResourceSlice) (xs : List ResourceSlice) → is_in d p x ≡ false → head d p x xs ≡ xs
unfolding head
out d p x xs e = ap (λ (b : Bool). cond b (x ∷ xs) xs) e

else_by : (o : Ordering) (d p n : List ℕ) (v : Stored ResourceSlice) (e : List ℕ × Stored ResourceSlice) (es : Named ResourceSlice) → is_in d p v.object ≡ false → Elsewhere d p (cond (is_eq o) (Some e.1) (at_name es n))
    → (Elsewhere d p (at_name es n) → slices_of d p (insert_entry text_cmp es n v) ≡ slices_of d p es)
    → (text_cmp n e.0 ≡ Less → Elsewhere d p (at_name es n)) → text_cmp n e.0 ≡ o
    → slices_of d p (match_ordering o ((n, v) ∷ e ∷ es) ((e.0, v) ∷ es) (e ∷ insert_entry text_cmp es n v)) ≡ slices_of d p (e ∷ es)
unfolding head
else_by Less d p n v e es away old later none is = out d p v.object (slices_of d p (e ∷ es)) away
else_by Equal d p n v e es away old later none is = out d p v.object (slices_of d p es) away ∙ sym (out d p e.1.object (slices_of d p es) old)
else_by Greater d p n v e es away old later none is = ap (λ (xs : List ResourceSlice). head d p e.1.object xs) (later old)

put_else : (d p n : List ℕ) (v : Stored ResourceSlice) (es : Named ResourceSlice) → is_in d p v.object ≡ false → Elsewhere d p (at_name es n) → Rising es → slices_of d p (insert_entry text_cmp es n v) ≡ slices_of d p es
unfolding IsStrictlySortedBy head
put_else d p n v [] away old h = out d p v.object [] away
put_else d p n v (e ∷ es) away old h =
    else_by (text_cmp n e.0) d p n v e es away old (λ there. put_else d p n v es away there h.1)
    (λ less. subst (Elsewhere d p) (sym (none_above n es (above_lower n e.0 es less h.0))) tt) refl

with_else : (d p : List ℕ) (k : ℕ) (x : ResourceSlice) (es : Named ResourceSlice) → is_in d p x ≡ false → Elsewhere d p (at_name es x.name) → Rising es → slices_of d p (with_named k x.name x es) ≡ slices_of d p es
with_else d p k x es away old h = put_same d p x.name k x es (at_name es x.name) refl h ∙ put_else d p x.name (created k x) es away old h

gone_else_by : (c : Bool) (d p n : List ℕ) (e : List ℕ × Stored ResourceSlice) (es : Named ResourceSlice) → Elsewhere d p (cond c (Some e.1) (at_name es n))
    → (Elsewhere d p (at_name es n) → slices_of d p (remove_entry (is_at (text_cmp n)) es) ≡ slices_of d p es)
    → slices_of d p (cond c es (e ∷ remove_entry (is_at (text_cmp n)) es)) ≡ slices_of d p (e ∷ es)
unfolding head
gone_else_by true d p n e es old later = sym (out d p e.1.object (slices_of d p es) old)
gone_else_by false d p n e es old later = ap (λ (xs : List ResourceSlice). head d p e.1.object xs) (later old)

gone_else : (d p n : List ℕ) (es : Named ResourceSlice) → Elsewhere d p (at_name es n) → slices_of d p (remove_entry (is_at (text_cmp n)) es) ≡ slices_of d p es
gone_else d p n [] old = refl
gone_else d p n (e ∷ es) old = gone_else_by (is_at (text_cmp n) e.0) d p n e es old (λ there. gone_else d p n es there)

-- ---- the usable slices of a pool

abbrev pub named : (d p : List ℕ) → PoolName
named d p = record { driver = d; pool = p }

abbrev is_pool : PoolName → PoolName → Bool
is_pool p r = is_eq (pool_cmp p r)

all_kept : (p r : PoolName) (xs : List ResourceSlice) → is_pool p r ≡ true → AllByRecursion (OfPool r) xs → filter (λ x. is_pool p (pool_named x)) xs ≡ xs
all_kept p r [] is h = refl
all_kept p r (x ∷ xs) is h =
    ap (λ (b : Bool). cond b (x ∷ filter (λ y. is_pool p (pool_named y)) xs) (filter (λ y. is_pool p (pool_named y)) xs)) (ap (is_pool p) h.0 ∙ is)
    ∙ ap (λ (ys : List ResourceSlice). x ∷ ys) (all_kept p r xs is h.1)

all_dropped : (p r : PoolName) (xs : List ResourceSlice) → is_pool p r ≡ false → AllByRecursion (OfPool r) xs → filter (λ x. is_pool p (pool_named x)) xs ≡ []
all_dropped p r [] is h = refl
all_dropped p r (x ∷ xs) is h =
    ap (λ (b : Bool). cond b (x ∷ filter (λ y. is_pool p (pool_named y)) xs) (filter (λ y. is_pool p (pool_named y)) xs)) (ap (is_pool p) h.0 ∙ is) ∙ all_dropped p r xs is h.1

of_block : (b : Bool) (p r : PoolName) (xs : List ResourceSlice) → is_pool p r ≡ b → AllByRecursion (OfPool r) xs → filter (λ x. is_pool p (pool_named x)) xs ≡ cond b xs []
of_block true p r xs is h = all_kept p r xs is h
of_block false p r xs is h = all_dropped p r xs is h

abbrev if_pool : Named ResourceSlice → PoolName → PoolName → List ResourceSlice
if_pool all p r = cond (is_pool p r) (block all r) []

of_blocks : (all : Named ResourceSlice) (p : PoolName) (ps : List PoolName) → filter (λ x. is_pool p (pool_named x)) (flat_map (block all) ps) ≡ flat_map (if_pool all p) ps
of_blocks all p [] = refl
of_blocks all p (r ∷ ps) =
    filter-append (λ x. is_pool p (pool_named x)) (block all r) (flat_map (block all) ps)
    ∙ ap (λ (xs : List ResourceSlice). xs ++ filter (λ x. is_pool p (pool_named x)) (flat_map (block all) ps)) (of_block (is_pool p r) p r (block all r) refl (block_of_pool all r))
    ∙ ap (λ (xs : List ResourceSlice). if_pool all p r ++ xs) (of_blocks all p ps)

none_after : (all : Named ResourceSlice) (p : PoolName) (ps : List PoolName) → AllByRecursion (Before p) ps → flat_map (if_pool all p) ps ≡ []
none_after all p [] h = refl
none_after all p (r ∷ ps) h = ap (λ (o : Ordering). cond (is_eq o) (block all r) [] ++ flat_map (if_pool all p) ps) h.0 ∙ none_after all p ps h.1

one_by : (b : Bool) (all : Named ResourceSlice) (p r : PoolName) (ps : List PoolName) → is_pool p r ≡ b → AllByRecursion (Before r) ps
    → flat_map (if_pool all p) ps ≡ cond (list_any (is_pool p) ps) (block all p) []
    → cond b (block all r) [] ++ flat_map (if_pool all p) ps ≡ cond (b || list_any (is_pool p) ps) (block all p) []
one_by true all p r ps is after later =
    let same : p ≡ r = pools_exact.same p r (equal_at (pool_cmp p r) is) in
    ap (λ (xs : List ResourceSlice). block all r ++ xs) (none_after all p ps (subst (λ q. AllByRecursion (Before q) ps) (sym same) after)) ∙ append-nil (block all r) ∙ ap (block all) (sym same)
one_by false all p r ps is after later = later

one_block : (all : Named ResourceSlice) (p : PoolName) (ps : List PoolName) → Pairwise Before ps → flat_map (if_pool all p) ps ≡ cond (list_any (is_pool p) ps) (block all p) []
one_block all p [] h = refl
one_block all p (r ∷ ps) h = one_by (is_pool p r) all p r ps refl h.0 (one_block all p ps h.1)

-- a pool that isn't listed has no slices
or_twice : (b c : Bool) → b ≡ c → (b || c) ≡ c
or_twice true true e = refl
or_twice false false e = refl
or_twice true false e = absurd (cc)
or_twice false true e = absurd (cc)

or_assoc : (a b c : Bool) → ((a || b) || c) ≡ (a || (b || c))
or_assoc true b c = refl
or_assoc false b c = refl

or_swap : (a b c : Bool) → (b || (a || c)) ≡ (a || (b || c))
or_swap true true c = refl
or_swap true false c = refl
or_swap false true c = refl
or_swap false false c = refl

any_put_by : (o : Ordering) (p k x : PoolName) (xs more : List PoolName) → pool_cmp k x ≡ o → list_any (is_pool p) more ≡ (is_pool p k || list_any (is_pool p) xs)
    → list_any (is_pool p) (match_ordering o (k ∷ x ∷ xs) (x ∷ xs) (x ∷ more)) ≡ (is_pool p k || list_any (is_pool p) (x ∷ xs))
any_put_by Less p k x xs more is h = refl
any_put_by Equal p k x xs more is h =
    sym (ap (λ (b : Bool). is_pool p k || b) refl ∙ sym (or_assoc (is_pool p k) (is_pool p x) (list_any (is_pool p) xs)) ∙ ap (λ (b : Bool). b || list_any (is_pool p) xs) (or_twice (is_pool p k) (is_pool p x) (ap (is_pool p) (pools_exact.same k x is))))
any_put_by Greater p k x xs more is h = ap (λ (b : Bool). is_pool p x || b) h ∙ or_swap (is_pool p k) (is_pool p x) (list_any (is_pool p) xs)

any_put : (p k : PoolName) (xs : List PoolName) → list_any (is_pool p) (insert_key pool_cmp xs k) ≡ (is_pool p k || list_any (is_pool p) xs)
any_put p k [] = refl
any_put p k (x ∷ xs) = any_put_by (pool_cmp k x) p k x xs (insert_key pool_cmp xs k) refl (any_put p k xs)

left_false : (a b : Bool) → (a || b) ≡ false → a ≡ false
left_false true b e = absurd (cc)
left_false false b e = refl

right_false : (a b : Bool) → (a || b) ≡ false → b ≡ false
right_false true b e = absurd (cc)
right_false false b e = e

none_listed : (p : PoolName) (es : Named ResourceSlice) (ps : List PoolName) → list_any (is_pool p) (pools_with ps es) ≡ false → (list_any (is_pool p) ps ≡ false) × (slices_of p.driver p.pool es ≡ [])
none_listed p [] ps e = (e, refl)
none_listed p (x ∷ es) ps e =
    let later = none_listed p es (insert_key pool_cmp ps (pool_named x.1.object)) e in
    let both : (is_pool p (pool_named x.1.object) || list_any (is_pool p) ps) ≡ false = sym (any_put p (pool_named x.1.object) ps) ∙ later.0 in (
      right_false (is_pool p (pool_named x.1.object)) (list_any (is_pool p) ps) both,
      ap (λ (b : Bool). cond b (x.1.object ∷ slices_of p.driver p.pool es) (slices_of p.driver p.pool es)) (sym (is_of p x.1.object) ∙ left_false (is_pool p (pool_named x.1.object)) (list_any (is_pool p) ps) both) ∙ later.1,
    )

same_either : (b : Bool) (xs : List ResourceSlice) → xs ≡ [] → cond b xs [] ≡ []
same_either true xs e = e
same_either false xs e = refl

no_block : (all : Named ResourceSlice) (p : PoolName) → slices_of p.driver p.pool all ≡ [] → block all p ≡ []
unfolding pool_of
no_block all p e = ap (λ (xs : List ResourceSlice). if_usable (newest xs)) e ∙ same_either (is_usable []) [] refl

listed_by : (b : Bool) (all : Named ResourceSlice) (p : PoolName) → list_any (is_pool p) (pools all) ≡ b → cond b (block all p) [] ≡ block all p
listed_by true all p e = refl
listed_by false all p e = sym (no_block all p ((none_listed p all [] e).1))

each_same : (f g : ResourceSlice → Bool) (xs : List ResourceSlice) → ((x : ResourceSlice) → f x ≡ g x) → filter f xs ≡ filter g xs
each_same f g [] h = refl
each_same f g (x ∷ xs) h = ap (λ (b : Bool). cond b (x ∷ filter f xs) (filter f xs)) (h x) ∙ ap (λ (ys : List ResourceSlice). cond (g x) (x ∷ ys) ys) (each_same f g xs h)

pub usable_in : (i : Inventory) (d p : List ℕ) → filter (is_in d p) (usable_slices i) ≡ if_usable (pool_of i.slices d p)
unfolding usable_slices
usable_in i d p =
    each_same (is_in d p) (λ x. is_pool (named d p) (pool_named x)) (flat_map (block i.slices) (pools i.slices)) (λ x. sym (is_of (named d p) x))
    ∙ of_blocks i.slices (named d p) (pools i.slices) ∙ one_block i.slices (named d p) (pools i.slices) (pools_rise i.slices [] tt)
    ∙ listed_by (list_any (is_pool (named d p)) (pools i.slices)) i.slices (named d p) refl

-- if the pool has the same slices, it has the same usable ones
usable_same : (i j : Inventory) (d p : List ℕ) → slices_of d p i.slices ≡ slices_of d p j.slices → filter (is_in d p) (usable_slices i) ≡ filter (is_in d p) (usable_slices j)
unfolding pool_of
usable_same i j d p e = usable_in i d p ∙ ap (λ (xs : List ResourceSlice). if_usable (newest xs)) e ∙ sym (usable_in j d p)

pub put_alone : (i : Inventory) (k : ℕ) (x : ResourceSlice) (d p : List ℕ) → AreInOrder i → filter (is_in d p) (usable_slices (with_slice k x i)) ≡ filter (is_in d p) (usable_slices (with_slice k x (only_pool d p i)))
put_alone i k x d p h = usable_same (with_slice k x i) (with_slice k x (only_pool d p i)) d p (with_same d p k x i.slices h)

pub removed_alone : (i : Inventory) (n d p : List ℕ) → AreInOrder i → filter (is_in d p) (usable_slices (without_slice n i)) ≡ filter (is_in d p) (usable_slices (without_slice n (only_pool d p i)))
removed_alone i n d p h = usable_same (without_slice n i) (without_slice n (only_pool d p i)) d p (gone_in d p n i.slices h)

pub put_elsewhere : (i : Inventory) (k : ℕ) (x : ResourceSlice) (d p : List ℕ) → AreInOrder i → is_in d p x ≡ false → IsElsewhere d p x.name i → filter (is_in d p) (usable_slices (with_slice k x i)) ≡ filter (is_in d p) (usable_slices i)
put_elsewhere i k x d p h away old = usable_same (with_slice k x i) i d p (with_else d p k x i.slices away old h)

pub removed_elsewhere : (i : Inventory) (n d p : List ℕ) → AreInOrder i → IsElsewhere d p n i → filter (is_in d p) (usable_slices (without_slice n i)) ≡ filter (is_in d p) (usable_slices i)
removed_elsewhere i n d p h old = usable_same (without_slice n i) i d p (gone_else d p n i.slices old)

-- ---- devices, and names

fewer_by : (b : Bool) (e : List ℕ × Stored ResourceSlice) (es fs : Named ResourceSlice) → device_count fs ≤ device_count es → device_count (cond b (e ∷ fs) fs) ≤ device_count (e ∷ es)
fewer_by true e es fs h = omega (arith, h)
fewer_by false e es fs h = omega (arith, h)

pub fewer : (d p : List ℕ) (es : Named ResourceSlice) → device_count (stored_in d p es) ≤ device_count es
unfolding stored_in
fewer d p [] = omega arith
fewer d p (e ∷ es) = fewer_by (is_in d p e.1.object) e es (stored_in d p es) (fewer d p es)

most_by : (c : Bool) (test : List ℕ → Bool) (f : List ℕ × Stored ResourceSlice) (es : Named ResourceSlice) → device_count (remove_entry test es) ≤ device_count es → device_count (cond c es (f ∷ remove_entry test es)) ≤ device_count (f ∷ es)
most_by true test f es h = omega arith
most_by false test f es h = omega (arith, h)

at_most : (test : List ℕ → Bool) (es : Named ResourceSlice) → device_count (remove_entry test es) ≤ device_count es
at_most test [] = omega arith
at_most test (f ∷ es) = most_by (test f.0) test f es (at_most test es)

less_by : (b c : Bool) (test : List ℕ → Bool) (e : List ℕ × Stored ResourceSlice) (es fs : Named ResourceSlice) → test e.0 ≡ c → device_count fs ≤ device_count es → device_count (remove_entry test fs) ≤ device_count fs
    → device_count (remove_entry test fs) ≤ device_count (remove_entry test es) → device_count (remove_entry test (cond b (e ∷ fs) fs)) ≤ device_count (cond c es (e ∷ remove_entry test es))
less_by true true test e es fs is h g l = subst (λ (k : Bool). device_count (cond k fs (e ∷ remove_entry test fs)) ≤ device_count es) (sym is) h
less_by true false test e es fs is h g l = subst (λ (k : Bool). device_count (cond k fs (e ∷ remove_entry test fs)) ≤ device_count (e ∷ remove_entry test es)) (sym is) (omega (arith, l))
less_by false true test e es fs is h g l = omega (arith, h, g)
less_by false false test e es fs is h g l = omega (arith, l)

less_in : (d p : List ℕ) (test : List ℕ → Bool) (es : Named ResourceSlice) → device_count (remove_entry test (stored_in d p es)) ≤ device_count (remove_entry test es)
unfolding stored_in
less_in d p test [] = omega arith
less_in d p test (e ∷ es) =
    less_by (is_in d p e.1.object) (test e.0) test e es (stored_in d p es) refl (fewer d p es) (at_most test (stored_in d p es)) (less_in d p test es)

room_by : (a b n : ℕ) → b ≤ a → a + n ≤ devices_most → b + n ≤ devices_most
room_by a b n h k = omega (arith, h, k)

pub room : (i : Inventory) (x : ResourceSlice) (d p : List ℕ) → has_room_for i.slices x ≡ true → has_room_for (only_pool d p i).slices x ≡ true
room i x d p e =
    le-leb (device_count (without_named x.name (stored_in d p i.slices)) + length x.devices) devices_most
    (room_by (device_count (without_named x.name i.slices)) (device_count (without_named x.name (stored_in d p i.slices))) (length x.devices) (less_in d p (is_at (text_cmp x.name)) i.slices)
    (leb-true (device_count (without_named x.name i.slices) + length x.devices) devices_most e))

named_by : (b : Bool) (e : List ℕ × Stored ResourceSlice) (fs : Named ResourceSlice) → e.0 ≡ e.1.object.name → AtOwnNames fs → AtOwnNames (cond b (e ∷ fs) fs)
named_by true e fs own h = (own, h)
named_by false e fs own h = h

pub named_in : (d p : List ℕ) (es : Named ResourceSlice) → AtOwnNames es → AtOwnNames (stored_in d p es)
unfolding stored_in
named_in d p [] h = tt
named_in d p (e ∷ es) h = named_by (is_in d p e.1.object) e (stored_in d p es) h.0 (named_in d p es h.1)

-- ---- as they are put one after another

below_later : (y : List ℕ) (xs rest : Named ResourceSlice) (k : List ℕ) (v : Stored ResourceSlice) → AllByRecursion (λ q. text_cmp y q ≡ Less) (keys_of (xs ++ (k, v) ∷ rest)) → text_cmp y k ≡ Less
below_later y [] rest k v a = a.0
below_later y (x ∷ xs) rest k v a = below_later y xs rest k v a.1

last : (n : List ℕ) (v : Stored ResourceSlice) (xs rest : Named ResourceSlice) → Rising (xs ++ (n, v) ∷ rest) → insert_entry text_cmp xs n v ≡ xs ++ (n, v) ∷ []
unfolding IsStrictlySortedBy
last n v [] rest h = refl
last n v (x ∷ xs) rest h =
    ap (λ (o : Ordering). match_ordering o ((n, v) ∷ x ∷ xs) ((x.0, v) ∷ xs) (x ∷ insert_entry text_cmp xs n v)) (nat_list_cmp_total.antisymm n x.0 ∙ ap ordering_reverse (below_later x.0 xs rest n v h.0))
    ∙ ap (λ (es : Named ResourceSlice). x ∷ es) (last n v xs rest h.1)

pub grows : (d p : List ℕ) (all es rest some new : Named ResourceSlice) (n m : List ℕ) (s v : Stored ResourceSlice) → Rising all → some ++ stored_in d p es ≡ stored_in d p all → es ≡ (n, s) ∷ rest → is_in d p s.object ≡ true → m ≡ n → v ≡ s
    → new ≡ insert_entry text_cmp some m v → new ++ stored_in d p rest ≡ stored_in d p all
unfolding stored_in
grows d p all es rest some new n m s v h whole is at name same put =
    let next : stored_in d p es ≡ (n, s) ∷ stored_in d p rest = ap (stored_in d p) is ∙ ap (λ (b : Bool). cond b ((n, s) ∷ stored_in d p rest) (stored_in d p rest)) at in
    let split : some ++ (n, s) ∷ stored_in d p rest ≡ stored_in d p all = ap (λ (l : Named ResourceSlice). some ++ l) (sym next) ∙ whole in
    let end : new ≡ some ++ (n, s) ∷ [] =
    put ∙ ap (λ (k : List ℕ). insert_entry text_cmp some k v) name ∙ ap (insert_entry text_cmp some n) same
    ∙ last n s some (stored_in d p rest) (subst Rising (sym split) (rising_in d p all h)) in
    ap (λ (l : Named ResourceSlice). l ++ stored_in d p rest) end ∙ append_assoc some ((n, s) ∷ []) (stored_in d p rest) ∙ split

few_by : (a b n : ℕ) → a ≤ b → n ≡ b → n ≤ devices_most → a ≤ devices_most
few_by a b n h e k = omega (arith, h, e, k)

pub few_in : (d p : List ℕ) (es some : Named ResourceSlice) (n : ℕ) → some ≡ stored_in d p es → IsKept es n → device_count some ≤ devices_most
few_in d p es some n e kept = few_by (device_count some) (device_count es) n (subst (λ l. device_count l ≤ device_count es) (sym e) (fewer d p es)) kept.sum kept.within

pub kept_in : (d p : List ℕ) (es some : Named ResourceSlice) (n k : ℕ) → some ≡ stored_in d p es → IsKept es n → k ≡ device_count some → IsKept some k
kept_in d p es some n k e kept count = record {
  sum = count;
  within = subst (λ m. m ≤ devices_most) (sym count) (few_in d p es some n e kept);
  named = subst AtOwnNames (sym e) (named_in d p es kept.named);
}
