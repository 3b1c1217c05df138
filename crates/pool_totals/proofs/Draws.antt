-- How much devices draw from counters.
use Rattle.std.proofs.Common.{ℕ, suc, ◌+◌, ◌*◌, ◌≤◌, ℤ, pos, negsuc, ◌≡◌, List, [], ◌∷◌, Bool, true, false, ◌||◌, cond, Option, Some, is_some, length, map, refl, sym, ap, ap₂, ◌∙◌, subst, arith}
use Rattle.std.specs.List.{filter, flat_map, slice_get, sum_by}
use Rattle.std.specs.Map.{lookup}
use Rattle.std.proofs.lemmas.List.Sums.{sum_by-append, sum_by-cons}
use Rattle.object_fields.specs.declared.key.DeviceId.{DeviceId}
use Rattle.object_fields.specs.declared.key.Key.{Key}
use Rattle.quantity.specs.Range.{most}
use Rattle.api_slice.specs.Consumption.{amounts_most}
use Rattle.api_slice.specs.Limits.{IsWithinLimits, KeepsLimits}
use Rattle.api_slice.specs.Nodes.{is_per_device}
use Rattle.api_slice.specs.declared.types.CounterConsumption.{CounterConsumption}
use Rattle.api_slice.specs.declared.types.Device.{Device}
use Rattle.api_slice.specs.declared.types.ResourceSlice.{ResourceSlice}
use Rattle.pool_view.specs.Names.{device_eq}
use Rattle.pool_view.specs.Pools.{Offered, id_in, offered_by}
use Rattle.request_rules.specs.Draws.{CounterId, counter_eq, counter_for, draws_from, draws_of, drawn, drawn_at, drawn_by, drawn_from, held_devices, held_in, is_held, natural}
use Rattle.counter_sets.specs.Holding.{AreHeld, Holders, holder_in, offered_held}
use Rattle.pool_totals.specs.Adding.{device_most, held_draws}
use Rattle.pool_totals.proofs.Places.{all_at}

-- ---- sums

no_parts : (a s : ℕ) → a ≡ 0 → s ≡ 0 → a + s ≡ 0
no_parts a s e h = omega (arith, e, h)

pub no_flat_sum : {X Y : Type 0} (f : Y → ℕ) (g : X → List Y) (xs : List X) → ((i : ℕ) (x : X) → slice_get xs i ≡ Some x → sum_by f (g x) ≡ 0) → sum_by f (flat_map g xs) ≡ 0
no_flat_sum f g [] h = refl
no_flat_sum f g (x ∷ xs) h = sum_by-append f (g x) (flat_map g xs) ∙ no_parts (sum_by f (g x)) (sum_by f (flat_map g xs)) (h 0 x refl) (no_flat_sum f g xs (λ i y e. h (suc i) y e))

pub no_map_sum : {X Y : Type 0} (f : Y → ℕ) (g : X → Y) (xs : List X) → ((i : ℕ) (x : X) → slice_get xs i ≡ Some x → f (g x) ≡ 0) → sum_by f (map g xs) ≡ 0
no_map_sum f g [] h = refl
no_map_sum f g (x ∷ xs) h = sum_by-cons f (g x) (map g xs) ∙ no_parts (f (g x)) (sum_by f (map g xs)) (h 0 x refl) (no_map_sum f g xs (λ i y e. h (suc i) y e))

pub no_sum : {X : Type 0} (f : X → ℕ) (xs : List X) → ((i : ℕ) (x : X) → slice_get xs i ≡ Some x → f x ≡ 0) → sum_by f xs ≡ 0
no_sum f [] h = refl
no_sum f (x ∷ xs) h = sum_by-cons f x xs ∙ no_parts (f x) (sum_by f xs) (h 0 x refl) (no_sum f xs (λ i y e. h (suc i) y e))

sum_step : (a s n m : ℕ) → a ≤ m → s ≤ n * m → a + s ≤ suc n * m
sum_step a s n m h k = omega (arith, h, k)

map_sum : {X Y : Type 0} (f : Y → ℕ) (g : X → Y) (m : ℕ) (xs : List X) → ((x : X) → f (g x) ≤ m) → sum_by f (map g xs) ≤ length xs * m
map_sum f g m [] h = omega arith
map_sum f g m (x ∷ xs) h =
    subst (λ n. n ≤ length (x ∷ xs) * m) (sym (sum_by-cons f (g x) (map g xs))) (sum_step (f (g x)) (sum_by f (map g xs)) (length xs) m (h x) (map_sum f g m xs h))

-- ---- how much a device draws

natural_most : (n : ℤ) → natural n ≤ most
natural_most (pos n) = omega arith
natural_most (negsuc n) = omega arith

at_most : (b : Bool) (n m : ℕ) → n ≤ m → cond b n 0 ≤ m
at_most true n m h = h
at_most false n m h = omega arith

amounts_sum : (x : ResourceSlice) (c : CounterId) (k : CounterConsumption) → sum_by (drawn_at c) (draws_from x k) ≤ length k.amounts * most
amounts_sum x c k =
    map_sum (drawn_at c) (λ e. record { counter = counter_for x k.set e.0; amount = natural e.1 }) most k.amounts
    (λ e. at_most (counter_eq (counter_for x k.set e.0) c) (natural e.1) most (natural_most e.1))

joined_most : (a s n k m : ℕ) → a ≤ n * m → s ≤ k * m → a + s ≤ (n + k) * m
joined_most a s n k m h l = omega (arith, h, l)

consumed_sum : (x : ResourceSlice) (c : CounterId) (ks : List CounterConsumption) → sum_by (drawn_at c) (flat_map (draws_from x) ks) ≤ sum_by (λ k. length k.amounts) ks * most
consumed_sum x c [] = omega arith
consumed_sum x c (k ∷ ks) =
    let n = joined_most (sum_by (drawn_at c) (draws_from x k)) (sum_by (drawn_at c) (flat_map (draws_from x) ks)) (length k.amounts) (sum_by (λ j. length j.amounts) ks) most (amounts_sum x c k) (consumed_sum x c ks) in
    subst (λ s. s ≤ sum_by (λ j. length j.amounts) (k ∷ ks) * most) (sym (sum_by-append (drawn_at c) (draws_from x k) (flat_map (draws_from x) ks)))
    (subst (λ s. sum_by (drawn_at c) (draws_from x k) + sum_by (drawn_at c) (flat_map (draws_from x) ks) ≤ s * most) (sym (sum_by-cons (λ j. length j.amounts) k ks)) n)

times : (n s : ℕ) → s ≤ n * most → n ≤ amounts_most → s ≤ device_most
times n s h l = omega (arith, h, l)

pub device_sum : (x : ResourceSlice) (c : CounterId) (i : ℕ) (d : Device) → IsWithinLimits x → slice_get x.devices i ≡ Some d → drawn_from c (offered_by x d) ≤ device_most
unfolding draws_of drawn_from
device_sum x c i d limits there =
    let keeps : KeepsLimits (is_per_device x.nodes) d = all_at (KeepsLimits (is_per_device x.nodes)) x.devices i d limits.devices there in
    times (sum_by (λ k. length k.amounts) d.consumes) (drawn_from c (offered_by x d)) (consumed_sum x c d.consumes) keeps.drawn

-- ---- the held devices of a slice

kept_none : (f : Offered → ℕ) (b : Bool) (o : Offered) (os : List Offered) → f o ≡ 0 → sum_by f os ≡ 0 → sum_by f (cond b (o ∷ os) os) ≡ 0
kept_none f true o os e h = sum_by-cons f o os ∙ no_parts (f o) (sum_by f os) e h
kept_none f false o os e h = h

-- each of which draws nothing
pub held_none : (f : Offered → ℕ) (p : Offered → Bool) (x : ResourceSlice) (ds : List Device) → ((i : ℕ) (d : Device) → slice_get ds i ≡ Some d → f (offered_by x d) ≡ 0) → sum_by f (filter p (map (offered_by x) ds)) ≡ 0
held_none f p x [] h = refl
held_none f p x (d ∷ ds) h = kept_none f (p (offered_by x d)) (offered_by x d) (filter p (map (offered_by x) ds)) (h 0 d refl) (held_none f p x ds (λ i e g. h (suc i) e g))

kept_most : (f : Offered → ℕ) (b : Bool) (o : Offered) (os : List Offered) (n m : ℕ) → f o ≤ m → sum_by f os ≤ n * m → sum_by f (cond b (o ∷ os) os) ≤ suc n * m
kept_most f true o os n m e h = subst (λ s. s ≤ suc n * m) (sym (sum_by-cons f o os)) (sum_step (f o) (sum_by f os) n m e h)
kept_most f false o os n m e h = omega (arith, h)

pub held_most : (f : Offered → ℕ) (p : Offered → Bool) (x : ResourceSlice) (m : ℕ) (ds : List Device) → ((i : ℕ) (d : Device) → slice_get ds i ≡ Some d → f (offered_by x d) ≤ m) → sum_by f (filter p (map (offered_by x) ds)) ≤ length ds * m
held_most f p x m [] h = omega arith
held_most f p x m (d ∷ ds) h = kept_most f (p (offered_by x d)) (offered_by x d) (filter p (map (offered_by x) ds)) (length ds) m (h 0 d refl) (held_most f p x m ds (λ i e g. h (suc i) e g))

-- ---- the held ones, by pairs

some_step : (b : Bool) (x : Key) (o : Option Key) (r : Bool) → is_some o ≡ r → is_some (cond b (Some x) o) ≡ (b || r)
some_step true x o r e = refl
some_step false x o r e = e

some_pair : (pairs : List (DeviceId × Key)) (id : DeviceId) → is_some (lookup (λ d. device_eq d id) pairs) ≡ is_held pairs id
some_pair [] id = refl
some_pair (p ∷ ps) id = some_step (device_eq p.0 id) p.1 (lookup (λ d. device_eq d id) ps) (is_held ps id) (some_pair ps id)

same_held : (h : Holders) (pairs : List (DeviceId × Key)) (os : List Offered) → AreHeld h pairs → filter (λ o. is_some (holder_in h (id_in o))) os ≡ filter (λ o. is_held pairs (id_in o)) os
same_held h pairs [] held = refl
same_held h pairs (o ∷ os) held =
    ap₂ (λ (b : Bool) (r : List Offered). cond b (o ∷ r) r) (ap is_some (held.holder (id_in o)) ∙ some_pair pairs (id_in o)) (same_held h pairs os held)

held_of_pairs : (h : Holders) (pairs : List (DeviceId × Key)) (x : ResourceSlice) → AreHeld h pairs → offered_held h x ≡ held_in pairs x
unfolding offered_held
held_of_pairs h pairs x held = same_held h pairs (map (offered_by x) x.devices) held

-- ---- the held devices of slices, by pairs

pub held_drawn : (h : Holders) (pairs : List (DeviceId × Key)) (xs : List ResourceSlice) (c : CounterId) → AreHeld h pairs → held_draws h xs c ≡ drawn xs pairs c
unfolding drawn drawn_by held_devices
held_drawn h pairs [] c held = refl
held_drawn h pairs (x ∷ xs) c held =
    sum_by-cons (λ y. sum_by (drawn_from c) (offered_held h y)) x xs
    ∙ ap₂ (λ n m. n + m) (ap (λ os. sum_by (drawn_from c) os) (held_of_pairs h pairs x held)) (held_drawn h pairs xs c held)
    ∙ sym (sum_by-append (drawn_from c) (held_in pairs x) (flat_map (held_in pairs) xs))
