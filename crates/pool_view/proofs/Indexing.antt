-- The slices of each pool after one is put or removed.
use Rattle.std.proofs.Common.{ℕ, ◌≡◌, ◌∙◌, List, [], ◌∷◌, Bool, true, false, cond, Option, None, Some, Result, Ok, Err, refl, sym, ap, subst}
use Rattle.std.specs.Prelude.{IfOk, OnOk, filter}
use Rattle.std.specs.BTreeMap.{insert_entry, is_at}
use Rattle.std.specs.List.Sorted.{IsStrictlySortedBy}
use Rattle.std.specs.Map.{keys_of, remove_entry, set_value}
use Rattle.std.specs.Option.{unwrap_or}
use Rattle.std.specs.Ordering.{is_eq, match_ordering}
use Rattle.std.specs.declared.cmp.Ordering.{Ordering}
use Rattle.std.specs.declared.cmp.Ordering.TheVariants.{Less, Equal, Greater}
use Rattle.api_slice.specs.declared.types.ResourceSlice.{ResourceSlice}
use Rattle.pool_view.specs.declared.names.PoolName.{PoolName}
use Rattle.pool_view.specs.declared.stored.Stored.{Stored}
use Rattle.pool_view.specs.Groups.{objects}
use Rattle.pool_view.specs.Inventory.{InventoryFields, Named, put_by, updated, with_named, without_named}
use Rattle.pool_view.specs.Names.{at_name, text_cmp}
use Rattle.pool_view.specs.OnePool.{is_in, stored_in}
use Rattle.pool_view.specs.PoolIndexes.{AreIndexed, Index, IsIndex, at_pool, stored_by, was_in}
use Rattle.pool_view.specs.Pools.{pool_of, slices_of}
use Rattle.pool_view.specs.Tally.{AreUncounted}
use Rattle.pool_view.specs.Usable.{is_counted, pool_cmp, pool_named, usable_slices}
use Rattle.pool_view.proofs.Found.{at, at_gone, at_insert, at_remove, is_equal}
use Rattle.pool_view.proofs.OnePool.{Above, Elsewhere, Rising, above_in, above_lower, equal_at, front, named, none_above, none_gone, rising_in, usable_in}
use Rattle.pool_view.proofs.PoolGroups.{is_of, pools_exact, text_same, texts_exact}

-- ---- a value that is set is a value that is put

abbrev gone : List ℕ → Named ResourceSlice → Named ResourceSlice
gone n es = remove_entry (is_at (text_cmp n)) es

abbrev put : List ℕ → Stored ResourceSlice → Named ResourceSlice → Named ResourceSlice
put n v es = insert_entry text_cmp es n v

set_by : (o : Ordering) (n : List ℕ) (old v : Stored ResourceSlice) (e : List ℕ × Stored ResourceSlice) (es : Named ResourceSlice) → text_cmp n e.0 ≡ o → Above e.0 es
    → cond (is_eq o) (Some e.1) (at_name es n) ≡ Some old → (at_name es n ≡ Some old → set_value (is_at (text_cmp n)) es v ≡ put n v es)
    → cond (is_eq o) ((e.0, v) ∷ es) (e ∷ set_value (is_at (text_cmp n)) es v) ≡ match_ordering o ((n, v) ∷ e ∷ es) ((e.0, v) ∷ es) (e ∷ put n v es)
set_by Less n old v e es is above at later = absurd (let none = none_above n es (above_lower n e.0 es is above) in let wrong = sym none ∙ at in cc)
set_by Equal n old v e es is above at later = refl
set_by Greater n old v e es is above at later = ap (λ (fs : Named ResourceSlice). e ∷ fs) (later at)

set_is_put : (n : List ℕ) (old v : Stored ResourceSlice) (es : Named ResourceSlice) → Rising es → at_name es n ≡ Some old → set_value (is_at (text_cmp n)) es v ≡ put n v es
unfolding IsStrictlySortedBy
set_is_put n old v [] h at = absurd (cc)
set_is_put n old v (e ∷ es) h at = set_by (text_cmp n e.0) n old v e es refl h.0 at (λ there. set_is_put n old v es h.1 there)

put_is : (k : ℕ) (n : List ℕ) (x : ResourceSlice) (es : Named ResourceSlice) (o : Option (Stored ResourceSlice)) → Rising es → at_name es n ≡ o → put_by k n x es o ≡ put n (stored_by k x o) es
put_is k n x es None h at = refl
put_is k n x es (Some old) h at = set_is_put n old (updated k x old) es h at

stored_is : (k : ℕ) (x : ResourceSlice) (o : Option (Stored ResourceSlice)) → (stored_by k x o).object ≡ x
stored_is k x None = refl
stored_is k x (Some old) = refl

-- ---- the slices of a pool without the one of a name

gone_at : (c : Bool) (n : List ℕ) (e : List ℕ × Stored ResourceSlice) (fs : Named ResourceSlice) → is_at (text_cmp n) e.0 ≡ true → Above n fs → gone n (cond c (e ∷ fs) fs) ≡ fs
gone_at true n e fs is above = ap (λ (b : Bool). cond b fs (e ∷ gone n fs)) is
gone_at false n e fs is above = none_gone n fs above

gone_later : (c : Bool) (n : List ℕ) (e : List ℕ × Stored ResourceSlice) (fs : Named ResourceSlice) → is_at (text_cmp n) e.0 ≡ false → gone n (cond c (e ∷ fs) fs) ≡ cond c (e ∷ gone n fs) (gone n fs)
gone_later true n e fs is = ap (λ (b : Bool). cond b fs (e ∷ gone n fs)) is
gone_later false n e fs is = refl

at_same : (n : List ℕ) (e : List ℕ × Stored ResourceSlice) (fs : Named ResourceSlice) → is_at (text_cmp n) e.0 ≡ true → Above e.0 fs → Above n fs
at_same n e fs is above = subst (λ (m : List ℕ). Above m fs) (sym (text_same n e.0 (equal_at (text_cmp n e.0) is))) above

gone_by : (b : Bool) (d p n : List ℕ) (e : List ℕ × Stored ResourceSlice) (es : Named ResourceSlice) → is_at (text_cmp n) e.0 ≡ b → Above e.0 es → stored_in d p (gone n es) ≡ gone n (stored_in d p es)
    → stored_in d p (cond b es (e ∷ gone n es)) ≡ gone n (cond (is_in d p e.1.object) (e ∷ stored_in d p es) (stored_in d p es))
unfolding stored_in
gone_by true d p n e es is above later = sym (gone_at (is_in d p e.1.object) n e (stored_in d p es) is (above_in d p n es (at_same n e es is above)))
gone_by false d p n e es is above later =
    ap (λ (fs : Named ResourceSlice). cond (is_in d p e.1.object) (e ∷ fs) fs) later ∙ sym (gone_later (is_in d p e.1.object) n e (stored_in d p es) is)

gone_in : (d p n : List ℕ) (es : Named ResourceSlice) → Rising es → stored_in d p (gone n es) ≡ gone n (stored_in d p es)
unfolding IsStrictlySortedBy stored_in
gone_in d p n [] h = refl
gone_in d p n (e ∷ es) h = gone_by (is_at (text_cmp n) e.0) d p n e es refl h.0 (gone_in d p n es h.1)

away_by : (b : Bool) (d p n : List ℕ) (e : List ℕ × Stored ResourceSlice) (es : Named ResourceSlice) → is_at (text_cmp n) e.0 ≡ b → Above e.0 es → Elsewhere d p (cond b (Some e.1) (at_name es n))
    → (Elsewhere d p (at_name es n) → gone n (stored_in d p es) ≡ stored_in d p es)
    → gone n (cond (is_in d p e.1.object) (e ∷ stored_in d p es) (stored_in d p es)) ≡ cond (is_in d p e.1.object) (e ∷ stored_in d p es) (stored_in d p es)
away_by true d p n e es is above away later =
    gone_at (is_in d p e.1.object) n e (stored_in d p es) is (above_in d p n es (at_same n e es is above))
    ∙ sym (ap (λ (c : Bool). cond c (e ∷ stored_in d p es) (stored_in d p es)) away)
away_by false d p n e es is above away later =
    gone_later (is_in d p e.1.object) n e (stored_in d p es) is ∙ ap (λ (fs : Named ResourceSlice). cond (is_in d p e.1.object) (e ∷ fs) fs) (later away)

away_gone : (d p n : List ℕ) (es : Named ResourceSlice) → Rising es → Elsewhere d p (at_name es n) → gone n (stored_in d p es) ≡ stored_in d p es
unfolding IsStrictlySortedBy stored_in
away_gone d p n [] h away = refl
away_gone d p n (e ∷ es) h away = away_by (is_at (text_cmp n) e.0) d p n e es refl h.0 away (λ there. away_gone d p n es h.1 there)

elsewhere : (d p : List ℕ) (o : Option (Stored ResourceSlice)) → was_in d p o ≡ false → Elsewhere d p o
elsewhere d p None is = tt
elsewhere d p (Some s) is = is

old_by : (b : Bool) (d p n : List ℕ) (es : Named ResourceSlice) → Rising es → (b ≡ false → Elsewhere d p (at_name es n)) → cond b (gone n (stored_in d p es)) (stored_in d p es) ≡ gone n (stored_in d p es)
old_by true d p n es h away = refl
old_by false d p n es h away = sym (away_gone d p n es h (away refl))

old_gone : (d p n : List ℕ) (es : Named ResourceSlice) (o : Option (Stored ResourceSlice)) → Rising es → o ≡ at_name es n → cond (was_in d p o) (gone n (stored_in d p es)) (stored_in d p es) ≡ gone n (stored_in d p es)
old_gone d p n es o h is = old_by (was_in d p o) d p n es h (λ no. subst (Elsewhere d p) is (elsewhere d p o no))

-- ---- and with one put there

less_by : (b : Bool) (n : List ℕ) (v : Stored ResourceSlice) (fs : Named ResourceSlice) → Above n fs → cond b ((n, v) ∷ fs) fs ≡ cond b (put n v (gone n fs)) (gone n fs)
less_by true n v fs above = sym (ap (put n v) (none_gone n fs above) ∙ front n v fs above)
less_by false n v fs above = sym (none_gone n fs above)

abbrev entry : List ℕ → Stored ResourceSlice → List ℕ × Stored ResourceSlice
entry q v = (q, v)

equal_by : (b : Bool) (n m : List ℕ) (v : Stored ResourceSlice) (fs gs : Named ResourceSlice) → n ≡ m → Above n fs → gs ≡ fs → cond b ((m, v) ∷ fs) fs ≡ cond b (put n v gs) gs
equal_by true n m v fs gs same above is = ap (λ (q : List ℕ). entry q v ∷ fs) (sym same) ∙ sym (ap (put n v) is ∙ front n v fs above)
equal_by false n m v fs gs same above is = sym is

greater_in : (b : Bool) (n : List ℕ) (v : Stored ResourceSlice) (e : List ℕ × Stored ResourceSlice) (gs hs : Named ResourceSlice) → text_cmp n e.0 ≡ Greater → hs ≡ e ∷ gs → cond b (e ∷ put n v gs) (e ∷ gs) ≡ cond b (put n v hs) hs
greater_in true n v e gs hs is same =
    sym (ap (put n v) same ∙ ap (λ (o : Ordering). match_ordering o ((n, v) ∷ e ∷ gs) ((e.0, v) ∷ gs) (e ∷ put n v gs)) is)
greater_in false n v e gs hs is same = sym same

cond_in : (b : Bool) (e : List ℕ × Stored ResourceSlice) (fs gs : Named ResourceSlice) → e ∷ cond b fs gs ≡ cond b (e ∷ fs) (e ∷ gs)
cond_in true e fs gs = refl
cond_in false e fs gs = refl

greater_by : (b c : Bool) (n : List ℕ) (v : Stored ResourceSlice) (e : List ℕ × Stored ResourceSlice) (fs : Named ResourceSlice) → text_cmp n e.0 ≡ Greater
    → cond c (e ∷ cond b (put n v (gone n fs)) (gone n fs)) (cond b (put n v (gone n fs)) (gone n fs)) ≡ cond b (put n v (gone n (cond c (e ∷ fs) fs))) (gone n (cond c (e ∷ fs) fs))
greater_by b true n v e fs is = cond_in b e (put n v (gone n fs)) (gone n fs) ∙ greater_in b n v e (gone n fs) (gone n (e ∷ fs)) is (ap (λ (o : Ordering). cond (is_eq o) fs (e ∷ gone n fs)) is)
greater_by b false n v e fs is = refl

in_by : (o : Ordering) (d p n : List ℕ) (v : Stored ResourceSlice) (e : List ℕ × Stored ResourceSlice) (es : Named ResourceSlice) → text_cmp n e.0 ≡ o → Above e.0 es
    → stored_in d p (put n v es) ≡ cond (is_in d p v.object) (put n v (gone n (stored_in d p es))) (gone n (stored_in d p es))
    → stored_in d p (match_ordering o ((n, v) ∷ e ∷ es) ((e.0, v) ∷ es) (e ∷ put n v es)) ≡ cond (is_in d p v.object) (put n v (gone n (stored_in d p (e ∷ es)))) (gone n (stored_in d p (e ∷ es)))
unfolding stored_in
in_by Less d p n v e es is above later = less_by (is_in d p v.object) n v (stored_in d p (e ∷ es)) (above_in d p n (e ∷ es) (is, above_lower n e.0 es is above))
in_by Equal d p n v e es is above later =
    let own = above_in d p n es (at_same n e es (ap is_eq is) above) in
    equal_by (is_in d p v.object) n e.0 v (stored_in d p es) (gone n (stored_in d p (e ∷ es))) (text_same n e.0 is) own (gone_at (is_in d p e.1.object) n e (stored_in d p es) (ap is_eq is) own)
in_by Greater d p n v e es is above later =
    ap (λ (fs : Named ResourceSlice). cond (is_in d p e.1.object) (e ∷ fs) fs) later ∙ greater_by (is_in d p v.object) (is_in d p e.1.object) n v e (stored_in d p es) is

put_in : (d p n : List ℕ) (v : Stored ResourceSlice) (es : Named ResourceSlice) → Rising es → stored_in d p (put n v es) ≡ cond (is_in d p v.object) (put n v (gone n (stored_in d p es))) (gone n (stored_in d p es))
unfolding IsStrictlySortedBy stored_in
put_in d p n v [] h = refl
put_in d p n v (e ∷ es) h = in_by (text_cmp n e.0) d p n v e es refl h.0 (put_in d p n v es h.1)

-- ---- the index

unwrapped : (b : Bool) (v : Named ResourceSlice) (o : Option (Named ResourceSlice)) → unwrap_or (cond b (Some v) o) [] ≡ cond b v (unwrap_or o [])
unwrapped true v o = refl
unwrapped false v o = refl

at_put : (index : Index) (k : PoolName) (w : Named ResourceSlice) (q : PoolName) → at_pool (insert_entry pool_cmp index k w) q ≡ cond (is_eq (pool_cmp q k)) w (at_pool index q)
at_put index k w q =
    ap (λ (o : Option (Named ResourceSlice)). unwrap_or o []) (at_insert pool_cmp pools_exact index k q w) ∙ unwrapped (is_eq (pool_cmp q k)) w (at pool_cmp pools_exact q index)

taken_by : (b : Bool) (index : Index) (k q : PoolName) → is_eq (pool_cmp q k) ≡ b → IsStrictlySortedBy pool_cmp (keys_of index) → at_pool (remove_entry (is_at (pool_cmp k)) index) q ≡ cond b [] (at_pool index q)
taken_by true index k q is order =
    ap (at_pool (remove_entry (is_at (pool_cmp k)) index)) (pools_exact.same q k (is_equal (pool_cmp q k) is))
    ∙ ap (λ (o : Option (Named ResourceSlice)). unwrap_or o []) (at_gone pool_cmp pools_exact index k order)
taken_by false index k q is order = ap (λ (o : Option (Named ResourceSlice)). unwrap_or o []) (at_remove pool_cmp pools_exact index k q is)

at_taken : (index : Index) (k q : PoolName) → IsStrictlySortedBy pool_cmp (keys_of index) → at_pool (remove_entry (is_at (pool_cmp k)) index) q ≡ cond (is_eq (pool_cmp q k)) [] (at_pool index q)
at_taken index k q order = taken_by (is_eq (pool_cmp q k)) index k q refl order

module _ (old : Index) (k : PoolName) (x : ResourceSlice) (named : k ≡ pool_named x) (f : Named ResourceSlice → Named ResourceSlice) (w : Named ResourceSlice) (made : w ≡ f (at_pool old k)) where
  one_by : (b : Bool) (p : PoolName) → is_eq (pool_cmp p k) ≡ b → cond b w (at_pool old p) ≡ cond b (f (at_pool old p)) (at_pool old p)
  one_by true p is = made ∙ ap (λ (q : PoolName). f (at_pool old q)) (sym (pools_exact.same p k (is_equal (pool_cmp p k) is)))
  one_by false p is = refl

  one : (p : PoolName) → cond (is_eq (pool_cmp p k)) w (at_pool old p) ≡ cond (is_in p.driver p.pool x) (f (at_pool old p)) (at_pool old p)
  one p =
      one_by (is_eq (pool_cmp p k)) p refl
      ∙ ap (λ (b : Bool). cond b (f (at_pool old p)) (at_pool old p)) (ap (λ (q : PoolName). is_eq (pool_cmp p q)) named ∙ is_of p x)

  -- the slices of one pool are put in the place of what they were
  pub changed : (new : Index) → new ≡ insert_entry pool_cmp old k w → (p : PoolName) → at_pool new p ≡ cond (is_in p.driver p.pool x) (f (at_pool old p)) (at_pool old p)
  changed new is p = ap (λ (i : Index). at_pool i p) is ∙ at_put old k w p ∙ one p

  -- or the pool goes, as there are none any more
  pub taken : (new : Index) → new ≡ remove_entry (is_at (pool_cmp k)) old → w ≡ [] → IsStrictlySortedBy pool_cmp (keys_of old)
      → (p : PoolName) → at_pool new p ≡ cond (is_in p.driver p.pool x) (f (at_pool old p)) (at_pool old p)
  taken new is none order p =
      ap (λ (i : Index). at_pool i p) is ∙ at_taken old k p order
      ∙ ap (λ (v : Named ResourceSlice). cond (is_eq (pool_cmp p k)) v (at_pool old p)) (sym none) ∙ one p

abbrev pub Without : Index → Index → Option (Stored ResourceSlice) → List ℕ → Type 0
Without old new o n = (p : PoolName) → at_pool new p ≡ cond (was_in p.driver p.pool o) (gone n (at_pool old p)) (at_pool old p)

abbrev pub With : Index → Index → ResourceSlice → List ℕ → Stored ResourceSlice → Type 0
With old new x n v = (p : PoolName) → at_pool new p ≡ cond (is_in p.driver p.pool x) (put n v (at_pool old p)) (at_pool old p)

without_pool : (es : Named ResourceSlice) (old new : Index) (o : Option (Stored ResourceSlice)) (n : List ℕ) → Rising es → o ≡ at_name es n → IsIndex es old → Without old new o n
    → (p : PoolName) → at_pool new p ≡ gone n (stored_in p.driver p.pool es)
without_pool es old new o n order at is out p =
    out p ∙ ap (λ (fs : Named ResourceSlice). cond (was_in p.driver p.pool o) (gone n fs) fs) (is p) ∙ old_gone p.driver p.pool n es o order at

-- the index after a slice is removed
pub index_gone : (es : Named ResourceSlice) (old new : Index) (o : Option (Stored ResourceSlice)) (n : List ℕ) → Rising es → o ≡ at_name es n → IsIndex es old → Without old new o n → IsIndex (without_named n es) new
index_gone es old new o n order at is out = λ p. without_pool es old new o n order at is out p ∙ sym (gone_in p.driver p.pool n es order)

-- and after one is put
pub index_put : (es : Named ResourceSlice) (old mid new : Index) (o : Option (Stored ResourceSlice)) (k : ℕ) (x : ResourceSlice) (n : List ℕ) (v : Stored ResourceSlice) → n ≡ x.name → v ≡ stored_by k x o
    → Rising es → o ≡ at_name es n → IsIndex es old → Without old mid o n → With mid new x n v → IsIndex (with_named k x.name x es) new
index_put es old mid new o k x n v own made order at is out into = λ p.
    let b = is_in p.driver p.pool x in
    let object : v.object ≡ x = ap (λ (w : Stored ResourceSlice). w.object) made ∙ stored_is k x o in
    let all : with_named k x.name x es ≡ put n v es =
    ap (λ (m : List ℕ). with_named k m x es) (sym own) ∙ put_is k n x es (at_name es n) order refl
    ∙ ap (λ (q : Option (Stored ResourceSlice)). put n (stored_by k x q) es) (sym at) ∙ ap (λ (w : Stored ResourceSlice). put n w es) (sym made) in
    into p ∙ ap (λ (fs : Named ResourceSlice). cond b (put n v fs) fs) (without_pool es old mid o n order at is out p)
    ∙ ap (λ (y : ResourceSlice). cond (is_in p.driver p.pool y) (put n v (gone n (stored_in p.driver p.pool es))) (gone n (stored_in p.driver p.pool es))) (sym object)
    ∙ sym (put_in p.driver p.pool n v es order) ∙ ap (stored_in p.driver p.pool) (sym all)

-- the index of no slices
pub no_index : (index : Index) (es : Named ResourceSlice) → index ≡ [] → es ≡ [] → IsIndex es index
unfolding stored_in
no_index index es none empty = λ p. ap (λ (i : Index). at_pool i p) none ∙ ap (stored_in p.driver p.pool) (sym empty)

-- the index of the slices as they are after a put
pub indexed_by : (k : ℕ) (n : List ℕ) (x : ResourceSlice) (es table : Named ResourceSlice) (pools : Option Index) → n ≡ x.name → table ≡ with_named k n x es → AreIndexed (with_named k x.name x es) pools → AreIndexed table pools
indexed_by k n x es table pools own put is = subst (λ (t : Named ResourceSlice). AreIndexed t pools) (sym (put ∙ ap (λ (m : List ℕ). with_named k m x es) own)) is

-- once a slice was taken out there is none of its name
pub absent : (es : Named ResourceSlice) (old new : Index) (o : Option (Stored ResourceSlice)) (n : List ℕ) → Rising es → o ≡ at_name es n → IsIndex es old → Without old new o n
    → (p : PoolName) → at_name (at_pool new p) n ≡ None
absent es old new o n order at is out p =
    ap (λ (fs : Named ResourceSlice). at_name fs n) (without_pool es old new o n order at is out p)
    ∙ at_gone text_cmp texts_exact (stored_in p.driver p.pool es) n (rising_in p.driver p.pool es order)

-- ---- whether counters are about none of a pool's usable slices

objects_by : (b : Bool) (e : List ℕ × Stored ResourceSlice) (fs : Named ResourceSlice) (xs : List ResourceSlice) → objects fs ≡ xs → objects (cond b (e ∷ fs) fs) ≡ cond b (e.1.object ∷ xs) xs
objects_by true e fs xs h = ap (λ (l : List ResourceSlice). e.1.object ∷ l) h
objects_by false e fs xs h = h

objects_in : (d p : List ℕ) (es : Named ResourceSlice) → objects (stored_in d p es) ≡ slices_of d p es
unfolding stored_in
objects_in d p [] = refl
objects_in d p (e ∷ es) = objects_by (is_in d p e.1.object) e (stored_in d p es) (slices_of d p es) (objects_in d p es)

uncounted_in : (d p : List ℕ) (all : Named ResourceSlice) (index : Index) → IsIndex all index → AreUncounted (objects (at_pool index (named d p))) → AreUncounted (slices_of d p all)
uncounted_in d p all index is h = subst AreUncounted (ap (λ (fs : Named ResourceSlice). objects fs) (is (named d p)) ∙ objects_in d p all) h

pub known_in : {E : Type 0} (r : Result Bool E) (d p : List ℕ) (pools : Option Index) (index : Index) → pools ≡ Some index → IfOk r (λ known. known ≡ true → AreUncounted (objects (at_pool index (named d p))))
    → IfOk r (λ known. known ≡ true → (all : Named ResourceSlice) → AreIndexed all pools → AreUncounted (slices_of d p all))
known_in (Ok b) d p pools index is h = λ yes all indexed. uncounted_in d p all index (subst (AreIndexed all) is indexed) (h yes)
known_in (Err e) d p pools index is h = tt

usable_uncounted : (i : InventoryFields) (d p : List ℕ) → AreUncounted (slices_of d p i.slices) → filter is_counted (filter (is_in d p) (usable_slices i)) ≡ []
unfolding pool_of
usable_uncounted i d p h = ap (λ (xs : List ResourceSlice). filter is_counted xs) (usable_in i d p) ∙ h

pub known_of : {E : Type 0} (r : Result Bool E) (d p : List ℕ) (i : InventoryFields) (pools : Option Index) → AreIndexed i.slices pools
    → IfOk r (λ known. known ≡ true → (all : Named ResourceSlice) → AreIndexed all pools → AreUncounted (slices_of d p all))
    → IfOk r (λ known. known ≡ true → filter is_counted (filter (is_in d p) (usable_slices i)) ≡ [])
known_of (Ok b) d p i pools indexed h = λ yes. usable_uncounted i d p (h yes i.slices indexed)
known_of (Err e) d p i pools indexed h = tt

pub on_ok : {T E : Type 0} (r : Result T E) (A B : Type 0) → (A → B) → OnOk r A → OnOk r B
on_ok (Ok x) A B f h = f h
on_ok (Err e) A B f h = tt
