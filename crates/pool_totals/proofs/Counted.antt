-- The usable slices that have counter sets or devices that draw from some have all counters and all draws.
use Rattle.std.proofs.Common.{ℕ, zero, suc, ◌+◌, ◌≤◌, ℤ, ◌≡◌, ◌∙◌, List, [], ◌∷◌, Bool, true, false, ◌&&◌, cond, Option, None, Some, is_some, length, refl, sym, ap, arith}
use Rattle.std.specs.Prelude.{IsSome}
use Rattle.std.specs.List.{Contains, filter, flat_map, list_any, slice_get, sum_by}
use Rattle.std.specs.Option.{option_and_then, option_map}
use Rattle.std.specs.Cmp.Lexicographic.{same_text}
use Rattle.std.proofs.lemmas.Bool.{and_from, and_parts, or_parts}
use Rattle.std.proofs.lemmas.Cmp.{nat_list_eq_equiv}
use Rattle.std.proofs.lemmas.List.Sums.{sum_by-append, sum_by-cons}
use Rattle.object_fields.specs.declared.key.DeviceId.{DeviceId}
use Rattle.object_fields.specs.declared.key.Key.{Key}
use Rattle.api_slice.specs.declared.types.CounterConsumption.{CounterConsumption}
use Rattle.api_slice.specs.declared.types.CounterSet.{CounterSet}
use Rattle.api_slice.specs.declared.types.Device.{Device}
use Rattle.api_slice.specs.declared.types.ResourceSlice.{ResourceSlice}
use Rattle.pool_view.specs.declared.inventory.Inventory.{Inventory}
use Rattle.pool_view.specs.Differing.{HasCounter}
use Rattle.pool_view.specs.Names.{at_name, text_eq}
use Rattle.pool_view.specs.Pools.{id_in, offered_by}
use Rattle.pool_view.specs.Usable.{counted_slices, draws_any, has_sets, is_counted, usable_slices}
use Rattle.request_rules.specs.Draws.{CounterId, Draw, counter_eq, counter_for, counter_value, draws_from, draws_of, drawn, drawn_at, drawn_by, drawn_from, held_devices, held_in, is_held, is_of_pool, natural, or_value, value_among, value_in}
use Rattle.counter_sets.specs.Holding.{Holders, holder_in, offered_held}
use Rattle.pool_totals.specs.Adding.{devices_in, held_draws}
use Rattle.pool_totals.proofs.Draws.{held_none, no_flat_sum, no_map_sum, no_sum}
use Rattle.pool_totals.proofs.Places.{at_place, in_list}

-- ---- slices that aren't counted

or_none : (o : Option ℕ) → or_value o None ≡ o
or_none None = refl
or_none (Some n) = refl

none_by : (b : Bool) (sets : List CounterSet) (set name : List ℕ) → has_sets sets ≡ false → cond b (value_in sets set name) None ≡ None
none_by true [] set name e = refl
none_by true (s ∷ ss) set name e = absurd (cc)
none_by false sets set name e = refl

-- such a slice has no counters
no_value : (x : ResourceSlice) (c : CounterId) → has_sets x.counters ≡ false → counter_value x c ≡ None
unfolding counter_value
no_value x c e = none_by (is_of_pool x c) x.counters c.set c.counter e

no_draws : (x : ResourceSlice) (ks : List CounterConsumption) → draws_any ks ≡ false → flat_map (draws_from x) ks ≡ []
no_draws x [] e = refl
no_draws x (k ∷ ks) e = absurd (cc)

fails_at : (ds : List Device) (i : ℕ) (d : Device) → list_any (λ d. draws_any d.consumes) ds ≡ false → slice_get ds i ≡ Some d → draws_any d.consumes ≡ false
fails_at [] i d e at = absurd (cc)
fails_at (f ∷ ds) zero d e at = let same : f ≡ d = cc in ap (λ (x : Device). draws_any x.consumes) (sym same) ∙ (or_parts (draws_any f.consumes) (list_any (λ d. draws_any d.consumes) ds) e).0
fails_at (f ∷ ds) (suc i) d e at = fails_at ds i d (or_parts (draws_any f.consumes) (list_any (λ d. draws_any d.consumes) ds) e).1 at

-- its devices draw nothing
draws_nothing : (x : ResourceSlice) (pairs : List (DeviceId × Key)) (c : CounterId) → list_any (λ d. draws_any d.consumes) x.devices ≡ false → sum_by (drawn_from c) (held_in pairs x) ≡ 0
unfolding draws_of drawn_from
draws_nothing x pairs c e =
    held_none (drawn_from c) (λ o. is_held pairs (id_in o)) x x.devices
    (λ i d at. ap (λ (ds : List Draw). sum_by (drawn_at c) ds) (no_draws x d.consumes (fails_at x.devices i d e at)))

-- ---- all values

value_by : (b : Bool) (x : ResourceSlice) (xs : List ResourceSlice) (c : CounterId) → is_counted x ≡ b → value_among (filter is_counted xs) c ≡ value_among xs c → value_among (cond b (x ∷ filter is_counted xs) (filter is_counted xs)) c ≡ or_value (counter_value x c) (value_among xs c)
value_by true x xs c e h = ap (or_value (counter_value x c)) h
value_by false x xs c e h =
    let parts = or_parts (has_sets x.counters) (list_any (λ d. draws_any d.consumes) x.devices) e in
    h ∙ sym (ap (λ (o : Option ℕ). or_value o (value_among xs c)) (no_value x c parts.0))

pub values_counted : (xs : List ResourceSlice) (c : CounterId) → value_among (filter is_counted xs) c ≡ value_among xs c
values_counted [] c = refl
values_counted (x ∷ xs) c = value_by (is_counted x) x xs c refl (values_counted xs c)

pub value_counted : (i : Inventory) (c : CounterId) → value_among (counted_slices i) c ≡ value_among (usable_slices i) c
unfolding counted_slices
value_counted i c = values_counted (usable_slices i) c

-- ---- all draws

only_rest : (a n m : ℕ) → a ≡ 0 → n ≡ m → n ≡ a + m
only_rest a n m e f = omega (arith, e, f)

drawn_by_all : (b : Bool) (x : ResourceSlice) (xs : List ResourceSlice) (pairs : List (DeviceId × Key)) (c : CounterId) → is_counted x ≡ b
    → sum_by (drawn_from c) (flat_map (held_in pairs) (filter is_counted xs)) ≡ sum_by (drawn_from c) (flat_map (held_in pairs) xs)
    → sum_by (drawn_from c) (flat_map (held_in pairs) (cond b (x ∷ filter is_counted xs) (filter is_counted xs))) ≡ sum_by (drawn_from c) (held_in pairs x) + sum_by (drawn_from c) (flat_map (held_in pairs) xs)
drawn_by_all true x xs pairs c e h =
    sum_by-append (drawn_from c) (held_in pairs x) (flat_map (held_in pairs) (filter is_counted xs)) ∙ ap (λ n. sum_by (drawn_from c) (held_in pairs x) + n) h
drawn_by_all false x xs pairs c e h =
    let parts = or_parts (has_sets x.counters) (list_any (λ d. draws_any d.consumes) x.devices) e in
    only_rest (sum_by (drawn_from c) (held_in pairs x)) (sum_by (drawn_from c) (flat_map (held_in pairs) (filter is_counted xs))) (sum_by (drawn_from c) (flat_map (held_in pairs) xs)) (draws_nothing x pairs c parts.1) h

draws_counted : (xs : List ResourceSlice) (pairs : List (DeviceId × Key)) (c : CounterId) → sum_by (drawn_from c) (flat_map (held_in pairs) (filter is_counted xs)) ≡ sum_by (drawn_from c) (flat_map (held_in pairs) xs)
draws_counted [] pairs c = refl
draws_counted (x ∷ xs) pairs c =
    drawn_by_all (is_counted x) x xs pairs c refl (draws_counted xs pairs c) ∙ sym (sum_by-append (drawn_from c) (held_in pairs x) (flat_map (held_in pairs) xs))

pub drawn_counted : (i : Inventory) (pairs : List (DeviceId × Key)) (c : CounterId) → drawn (counted_slices i) pairs c ≡ drawn (usable_slices i) pairs c
unfolding counted_slices drawn drawn_by held_devices
drawn_counted i pairs c = draws_counted (usable_slices i) pairs c

-- ---- all devices

fewer_by : (b : Bool) (x : ResourceSlice) (xs : List ResourceSlice) → devices_in (filter is_counted xs) ≤ devices_in xs → devices_in (cond b (x ∷ filter is_counted xs) (filter is_counted xs)) ≤ length x.devices + devices_in xs
fewer_by true x xs h =
    let whole : devices_in (x ∷ filter is_counted xs) ≡ length x.devices + devices_in (filter is_counted xs) = sum_by-cons (λ y. length y.devices) x (filter is_counted xs) in
    omega (arith, whole, h)
fewer_by false x xs h = omega (arith, h)

fewer : (xs : List ResourceSlice) → devices_in (filter is_counted xs) ≤ devices_in xs
fewer [] = omega arith
fewer (x ∷ xs) =
    let whole : devices_in (x ∷ xs) ≡ length x.devices + devices_in xs = sum_by-cons (λ y. length y.devices) x xs in
    let some = fewer_by (is_counted x) x xs (fewer xs) in
    omega (arith, whole, some)

pub fewer_counted : (i : Inventory) → devices_in (counted_slices i) ≤ devices_in (usable_slices i)
unfolding counted_slices
fewer_counted i = fewer (usable_slices i)

-- ---- counters that devices draw from

-- a device of a usable slice draws from counters of usable slices of the pool
pub record AreThere (i : Inventory) : Type 0 where
  pub counters : (x : ResourceSlice) (d : Device) (k : CounterConsumption) (e : List ℕ × ℤ) → Contains (usable_slices i) x → Contains x.devices d → Contains d.consumes k → Contains k.amounts e → HasCounter i x k.set e.0

text_same : (a b : List ℕ) → text_eq a b ≡ true → a ≡ b
text_same a b e = same_text a b (sym e)

text_itself : (a : List ℕ) → text_eq a a ≡ true
text_itself a = nat_list_eq_equiv.refl a

equal_texts : (a b : List ℕ) → a ≡ b → text_eq a b ≡ true
equal_texts a b e = ap (text_eq a) (sym e) ∙ text_itself a

same_counter : (a b p q d e n m : List ℕ) → a ≡ b → p ≡ q → d ≡ e → n ≡ m → ◌≡◌ {A = CounterId} (record { driver = a; pool = p; set = d; counter = n }) (record { driver = b; pool = q; set = e; counter = m })
same_counter a b p q d e n m f g h k = cc

counter_same : (a b : CounterId) → counter_eq a b ≡ true → a ≡ b
counter_same a b e =
    let one = and_parts (text_eq a.driver b.driver) (text_eq a.pool b.pool && (text_eq a.set b.set && text_eq a.counter b.counter)) e in
    let two = and_parts (text_eq a.pool b.pool) (text_eq a.set b.set && text_eq a.counter b.counter) one.1 in
    let three = and_parts (text_eq a.set b.set) (text_eq a.counter b.counter) two.1 in
    same_counter a.driver b.driver a.pool b.pool a.set b.set a.counter b.counter (text_same a.driver b.driver one.0) (text_same a.pool b.pool two.0) (text_same a.set b.set three.0)
    (text_same a.counter b.counter three.1)

some_map : {X Y : Type 0} (f : X → Y) (o : Option X) → IsSome o → is_some (option_map f o) ≡ true
some_map f None h = absurd (cc)
some_map f (Some x) h = refl

some_or : (o p : Option ℕ) → is_some p ≡ true → is_some (or_value o p) ≡ true
some_or None p e = e
some_or (Some n) p e = refl

first_or : (o p : Option ℕ) → is_some o ≡ true → is_some (or_value o p) ≡ true
first_or None p e = absurd (cc)
first_or (Some n) p e = refl

some_at : (xs : List ResourceSlice) (c : CounterId) (j : ℕ) (x : ResourceSlice) → slice_get xs j ≡ Some x → is_some (counter_value x c) ≡ true → is_some (value_among xs c) ≡ true
some_at [] c j x at e = absurd (cc)
some_at (y ∷ ys) c zero x at e = let same : y ≡ x = cc in first_or (counter_value y c) (value_among ys c) (ap (λ z. is_some (counter_value z c)) same ∙ e)
some_at (y ∷ ys) c (suc j) x at e = some_or (counter_value y c) (value_among ys c) (some_at ys c j x at e)

-- a counter that is there has a value
value_there : (i : Inventory) (x : ResourceSlice) (set name : List ℕ) → HasCounter i x set name → is_some (value_among (usable_slices i) (counter_for x set name)) ≡ true
unfolding counter_value
value_there i x set name has =
    let y = has.slice in
    let c = counter_for x set name in
    let mine : is_of_pool y c ≡ true = and_from (text_eq y.driver x.driver) (text_eq y.pool.name x.pool.name) (equal_texts y.driver x.driver has.driver) (equal_texts y.pool.name x.pool.name has.pool) in
    some_at (usable_slices i) c has.there.0 y (at_place (usable_slices i) y has.there)
    (ap (λ (b : Bool). is_some (cond b (value_in y.counters set name) None)) mine
    ∙ ap (λ (o : Option CounterSet). is_some (option_map natural (option_and_then (λ s. at_name s.counters name) o))) has.set_is
    ∙ some_map natural (at_name has.counters.counters name) has.value)

pub none_at : (b : Bool) (n : ℕ) → (b ≡ true → ⊥) → cond b n 0 ≡ 0
none_at true n h = absurd (h refl)
none_at false n h = refl

-- a device draws nothing from a counter that no usable slice has
pub none_drawn : (i : Inventory) (x : ResourceSlice) (d : Device) (c : CounterId) → AreThere i → Contains (usable_slices i) x → Contains x.devices d → is_some (value_among (usable_slices i) c) ≡ false → drawn_from c (offered_by x d) ≡ 0
unfolding draws_of drawn_from
none_drawn i x d c are listed has none =
    no_flat_sum (drawn_at c) (draws_from x) d.consumes
    (λ j k at.
    no_map_sum (drawn_at c) (λ e. record { counter = counter_for x k.set e.0; amount = natural e.1 }) k.amounts
    (λ n e there.
    none_at (counter_eq (counter_for x k.set e.0) c) (natural e.1)
    (λ same. absurd (let some = ap (λ (b : CounterId). is_some (value_among (usable_slices i) b)) (sym (counter_same (counter_for x k.set e.0) c same)) ∙ value_there i x k.set e.0 (are.counters x d k e listed has (in_list d.consumes j k at) (in_list k.amounts n e there)) in cc))))

-- ---- held devices of counted slices

kept_at : {X : Type 0} (p : X → Bool) (b : Bool) (y : X) (ys : List X) (j : ℕ) (x : X) → slice_get (cond b (y ∷ filter p ys) (filter p ys)) j ≡ Some x → ((k : ℕ) → slice_get (filter p ys) k ≡ Some x → Contains ys x) → Contains (y ∷ ys) x
kept_at p true y ys zero x e h = in_list (y ∷ ys) 0 x e
kept_at p true y ys (suc j) x e h = let there = h j e in in_list (y ∷ ys) (suc there.0) x (at_place ys x there)
kept_at p false y ys j x e h = let there = h j e in in_list (y ∷ ys) (suc there.0) x (at_place ys x there)

of_all : {X : Type 0} (p : X → Bool) (xs : List X) (j : ℕ) (x : X) → slice_get (filter p xs) j ≡ Some x → Contains xs x
of_all p [] j x e = absurd (cc)
of_all p (y ∷ ys) j x e = kept_at p (p y) y ys j x e (λ k f. of_all p ys k x f)

pub counted_usable : (i : Inventory) (j : ℕ) (x : ResourceSlice) → slice_get (counted_slices i) j ≡ Some x → Contains (usable_slices i) x
unfolding counted_slices
counted_usable i j x e = of_all is_counted (usable_slices i) j x e

-- they draw nothing from a counter that no usable slice has
pub no_held_draws : (i : Inventory) (h : Holders) (c : CounterId) → AreThere i → is_some (value_among (usable_slices i) c) ≡ false → held_draws h (counted_slices i) c ≡ 0
unfolding drawn_by offered_held
no_held_draws i h c are none =
    no_sum (λ x. sum_by (drawn_from c) (offered_held h x)) (counted_slices i)
    (λ j x at.
    held_none (drawn_from c) (λ o. is_some (holder_in h (id_in o))) x x.devices
    (λ k d e. none_drawn i x d c are (counted_usable i j x at) (in_list x.devices k d e) none))
