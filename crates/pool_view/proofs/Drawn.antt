-- The counters from which devices of usable pools draw.
use Rattle.std.proofs.Common.{ℕ, ℤ, ◌≡◌, ◌∙◌, List, [], ◌∷◌, Bool, true, false, not, cond, Option, None, Some, refl, sym, ap}
use Rattle.std.specs.List.{AllByRecursion, Contains, find, flat_map, list_all}
use Rattle.std.specs.Option.{is_some, option_or}
use Rattle.std.proofs.lemmas.Bool.{and_parts, or_parts}
use Rattle.std.proofs.lemmas.List.Folds.{find-append}
use Rattle.api_slice.specs.declared.types.CounterConsumption.{CounterConsumption}
use Rattle.api_slice.specs.declared.types.CounterSet.{CounterSet}
use Rattle.api_slice.specs.declared.types.Device.{Device}
use Rattle.api_slice.specs.declared.types.ResourceSlice.{ResourceSlice}
use Rattle.pool_view.specs.declared.inventory.Inventory.{Inventory}
use Rattle.pool_view.specs.declared.names.PoolName.{PoolName}
use Rattle.pool_view.specs.Differing.{HasCounter}
use Rattle.pool_view.specs.Names.{at_name, text_eq}
use Rattle.pool_view.specs.Pools.{counts_differ, counts_of, device_names, draws_are_there, has_each, has_twice, is_complete, is_invalid, is_there, is_usable, pool_of, set_named, set_names, sets_of, slices_of}
use Rattle.pool_view.specs.Usable.{pools, usable_slices}
use Rattle.pool_view.proofs.Differ.{OfPool, all_of_pool, block, in_flat, of_all}
use Rattle.pool_view.proofs.Members.{in_head, in_tail}
use Rattle.pool_view.proofs.Pairs.{all_filter, all_flat_by, all_imply, all_in}

-- ---- lists

all_true : {X : Type 0} (p : X → Bool) (xs : List X) → list_all p xs ≡ true → AllByRecursion (λ x. p x ≡ true) xs
all_true p [] e = tt
all_true p (x ∷ xs) e = let both = and_parts (p x) (list_all p xs) e in (both.0, all_true p xs both.1)

in_all : {X : Type 0} (p : X → Bool) (xs : List X) (x : X) → list_all p xs ≡ true → Contains xs x → p x ≡ true
in_all p xs x e at = of_all (λ y. p y ≡ true) xs x (all_true p xs e) at

found_by : (test : CounterSet → Bool) (o later : Option CounterSet) (x : ResourceSlice) (xs : List ResourceSlice) (s : CounterSet) (Q : Type 0) → find test x.counters ≡ o → option_or o later ≡ Some s
    → ((y : ResourceSlice) → Contains (x ∷ xs) y → find test y.counters ≡ Some s → Q) → (later ≡ Some s → Q) → Q
found_by test (Some t) later x xs s Q is e here there = here x (in_head x xs) (is ∙ e)
found_by test None later x xs s Q is e here there = there e

-- a set that is found among those of slices is one of a slice, found among its own
found_in : (test : CounterSet → Bool) (xs : List ResourceSlice) (s : CounterSet) (Q : Type 0) → find test (sets_of xs) ≡ Some s
    → ((y : ResourceSlice) → Contains xs y → find test y.counters ≡ Some s → Q) → Q
found_in test [] s Q e use_it = absurd (cc)
found_in test (x ∷ xs) s Q e use_it =
    found_by test (find test x.counters) (find test (sets_of xs)) x xs s Q refl (sym (find-append test x.counters (sets_of xs)) ∙ e) use_it
    (λ later. found_in test xs s Q later (λ y at is. use_it y (in_tail x y xs at) is))

-- ---- a pool

not_false : (b : Bool) → not b ≡ false → b ≡ true
not_false true e = refl
not_false false e = absurd (cc)

not_true : (b : Bool) → not b ≡ true → b ≡ false
not_true true e = absurd (cc)
not_true false e = refl

usable_drawn : (xs : List ResourceSlice) → is_usable xs ≡ true → draws_are_there (sets_of xs) xs ≡ true
unfolding is_usable
usable_drawn xs e =
    let valid = and_parts (is_complete (counts_of xs)) (not (is_invalid xs)) e in
    let counts = or_parts (counts_differ (counts_of xs)) _ (not_true (is_invalid xs) valid.1) in
    let devices = or_parts (has_twice (flat_map device_names xs)) _ counts.1 in
    let sets = or_parts (has_twice (set_names (sets_of xs))) _ devices.1 in
    not_false (draws_are_there (sets_of xs) xs) sets.1

same_driver : (p : PoolName) (x y : ResourceSlice) → OfPool p y → OfPool p x → y.driver ≡ x.driver
same_driver p x y f g = ap (λ (q : PoolName). q.driver) (f ∙ sym g)

same_pool : (p : PoolName) (x y : ResourceSlice) → OfPool p y → OfPool p x → y.pool.name ≡ x.pool.name
same_pool p x y f g = ap (λ (q : PoolName). q.pool) (f ∙ sym g)

module _ (i : Inventory) (p : PoolName) (xs : List ResourceSlice) (up : (y : ResourceSlice) → Contains xs y → Contains (usable_slices i) y) (own : (y : ResourceSlice) → Contains xs y → OfPool p y) where
  counter_found : (o : Option CounterSet) (x : ResourceSlice) (set : List ℕ) (amounts : List (List ℕ × ℤ)) (e : List ℕ × ℤ) → Contains xs x → set_named (sets_of xs) set ≡ o
      → has_each o amounts ≡ true → Contains amounts e → HasCounter i x set e.0
  counter_found None x set amounts e at is each there = absurd (cc)
  counter_found (Some s) x set amounts e at is each there =
      found_in (λ s. text_eq s.name set) xs s (HasCounter i x set e.0) is
      (λ y in_xs found. record {
        slice = y;
        there = up y in_xs;
        driver = same_driver p x y (own y in_xs) (own x at);
        pool = same_pool p x y (own y in_xs) (own x at);
        counters = s;
        set_is = found;
        value = in_all (λ (f : List ℕ × ℤ). is_some (at_name s.counters f.0)) amounts e each there;
      })

abbrev Drawable : Inventory → ResourceSlice → Type 0
Drawable i x = (d : Device) (c : CounterConsumption) (e : List ℕ × ℤ) → Contains x.devices d → Contains d.consumes c → Contains c.amounts e → HasCounter i x c.set e.0

one_drawable : (i : Inventory) (p : PoolName) (xs : List ResourceSlice) → ((y : ResourceSlice) → Contains xs y → Contains (usable_slices i) y) → ((y : ResourceSlice) → Contains xs y → OfPool p y)
    → is_usable xs ≡ true → (x : ResourceSlice) → Contains xs x → Drawable i x
one_drawable i p xs up own usable x at d c e in_devices in_consumes in_amounts =
    let devices = in_all (λ y. list_all (λ f. list_all (is_there (sets_of xs)) f.consumes) y.devices) xs x (usable_drawn xs usable) at in
    let consumes = in_all (λ f. list_all (is_there (sets_of xs)) f.consumes) x.devices d devices in_devices in
    counter_found i p xs up own (set_named (sets_of xs) c.set) x c.set c.amounts e at refl (in_all (is_there (sets_of xs)) d.consumes c consumes in_consumes) in_amounts

-- ---- all pools

drawable_by : (b : Bool) (i : Inventory) (p : PoolName) (xs : List ResourceSlice) → is_usable xs ≡ b → ((y : ResourceSlice) → Contains (cond b xs []) y → Contains (usable_slices i) y)
    → AllByRecursion (OfPool p) xs → AllByRecursion (Drawable i) (cond b xs [])
drawable_by true i p xs usable up own =
    all_imply (λ x. Contains xs x) (Drawable i) xs (one_drawable i p xs up (λ y at. of_all (OfPool p) xs y own at) usable) (all_in xs)
drawable_by false i p xs usable up own = tt

pool_own : (i : Inventory) (p : PoolName) → AllByRecursion (OfPool p) (pool_of i.slices p.driver p.pool)
unfolding pool_of
pool_own i p = all_filter (OfPool p) _ (slices_of p.driver p.pool i.slices) (all_of_pool p i.slices)

block_up : (i : Inventory) (p : PoolName) → Contains (pools i.slices) p → (y : ResourceSlice) → Contains (block i.slices p) y → Contains (usable_slices i) y
unfolding usable_slices
block_up i p at y in_block = in_flat (block i.slices) (pools i.slices) p y at in_block

all_drawable : (i : Inventory) → AllByRecursion (Drawable i) (usable_slices i)
unfolding usable_slices
all_drawable i =
    all_flat_by (λ p. Contains (pools i.slices) p) (Drawable i) (block i.slices) (pools i.slices)
    (λ p at. drawable_by (is_usable (pool_of i.slices p.driver p.pool)) i p (pool_of i.slices p.driver p.pool) refl (block_up i p at) (pool_own i p)) (all_in (pools i.slices))

pub counters_there : (i : Inventory) (x : ResourceSlice) (d : Device) (c : CounterConsumption) (e : List ℕ × ℤ) → Contains (usable_slices i) x → Contains x.devices d → Contains d.consumes c
    → Contains c.amounts e → HasCounter i x c.set e.0
counters_there i x d c e at f g h = of_all (Drawable i) (usable_slices i) x (all_drawable i) at d c e f g h
