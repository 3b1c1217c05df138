-- The claims that hold devices, and what the held ones draw.
use Rattle.std.proofs.Common.{◌≡◌, ℕ, ◌+◌, ◌≤◌, ◌<◌, List, [], ◌∷◌, Bool, true, false, ◌&&◌, Option, None, Some, refl, sym, ap, ◌∙◌, if◌then◌else◌, cond, map, filter, arith}
use Rattle.std.specs.List.{sum_by}
use Rattle.std.specs.Option.{is_some}
use Rattle.std.proofs.lemmas.List.Sums.{sum_by-cons}
use Rattle.object_fields.specs.declared.key.DeviceId.{DeviceId}
use Rattle.object_fields.specs.declared.key.Key.{Key}
use Rattle.api_slice.specs.declared.types.Device.{Device}
use Rattle.api_slice.specs.declared.types.ResourceSlice.{ResourceSlice}
use Rattle.pool_view.specs.Names.{at_name, device_eq, text_eq}
use Rattle.pool_view.specs.Pools.{Offered, id_in, id_of, offered_by}
use Rattle.request_rules.specs.Draws.{CounterId, drawn_by, drawn_from}
use Rattle.counter_sets.specs.Holding.{AreHeld, Holders, added_held, held_device, holder_in, offered_held, put_device, put_driver, put_pool}
use Rattle.counter_sets.specs.Totals.{KeptCounters, Tabled, drawn_in, keeps, moved_by, or_empty, sum_most, value_of}
use Rattle.counter_sets.specs.declared.change.Change.TheVariants as change
use Rattle.counter_sets.proofs.Moves.{left_fits, same_value, taken, together}
use Rattle.counter_sets.proofs.Putting.{insert_at, put_at}

-- ---- none

no_holder : (id : DeviceId) → holder_in [] id ≡ None
unfolding holder_in
no_holder id = refl

pub none_held : (h : Holders) → h ≡ [] → (id : DeviceId) → holder_in h id ≡ None
none_held h e id = ap (λ (t : Holders). holder_in t id) e ∙ no_holder id

pub no_pairs : (h : Holders) → h ≡ [] → AreHeld h []
no_pairs h e = record { holder = none_held h e }

-- ---- one device more

pool_step : (b : Bool) (id q : DeviceId) (key : Key) (pools : Tabled (Tabled Key))
    → or_empty (at_name (if b then put_pool id key pools else pools) q.pool)
    ≡ (if b && text_eq id.pool q.pool then put_device id.device key (or_empty (at_name pools q.pool)) else or_empty (at_name pools q.pool))
pool_step true id q key pools = put_at id.pool q.pool (λ devices. put_device id.device key devices) pools
pool_step false id q key pools = refl

device_step : (b : Bool) (id q : DeviceId) (key : Key) (devices : Tabled Key)
    → at_name (if b then put_device id.device key devices else devices) q.device ≡ (if b && text_eq id.device q.device then Some key else at_name devices q.device)
device_step true id q key devices = insert_at id.device q.device key devices
device_step false id q key devices = refl

together_if : (b d e : Bool) (v o : Option Key) → (if (b && d) && e then v else o) ≡ (if b && (d && e) then v else o)
together_if true d e v o = refl
together_if false d e v o = refl

holder_put : (id : DeviceId) (key : Key) (h : Holders) (q : DeviceId) → holder_in (put_driver id key h) q ≡ (if device_eq id q then Some key else holder_in h q)
unfolding holder_in put_driver
holder_put id key h q =
    ap (λ (pools : Tabled (Tabled Key)). at_name (or_empty (at_name pools q.pool)) q.device) (put_at id.driver q.driver (λ pools. put_pool id key pools) h)
    ∙ ap (λ (devices : Tabled Key). at_name devices q.device) (pool_step (text_eq id.driver q.driver) id q key (or_empty (at_name h q.driver)))
    ∙ device_step (text_eq id.driver q.driver && text_eq id.pool q.pool) id q key (or_empty (at_name (or_empty (at_name h q.driver)) q.pool))
    ∙ together_if (text_eq id.driver q.driver) (text_eq id.pool q.pool) (text_eq id.device q.device) (Some key) (at_name (or_empty (at_name (or_empty (at_name h q.driver)) q.pool)) q.device)

pub holder_after : (id : DeviceId) (key : Key) (old new : Holders) → new ≡ put_driver id key old → (q : DeviceId)
    → holder_in new q ≡ (if device_eq id q then Some key else holder_in old q)
holder_after id key old new e q = ap (λ (h : Holders). holder_in h q) e ∙ holder_put id key old q

-- ---- what the held devices draw

one_value : (b : Bool) (o : Offered) (kept : KeptCounters) (c : CounterId) → value_of (if b then moved_by change.Draw o kept else kept) c ≡ value_of kept c
one_value true o kept c = same_value change.Draw o kept c
one_value false o kept c = refl

pub held_value : (h : Holders) (x : ResourceSlice) (ds : List Device) (kept : KeptCounters) (c : CounterId) → value_of (added_held h x ds kept) c ≡ value_of kept c
unfolding added_held
held_value h x [] kept c = refl
held_value h x (d ∷ ds) kept c =
    held_value h x ds (held_device h x d kept) c ∙ one_value (is_some (holder_in h (id_of x d))) (offered_by x d) kept c

one_drawn : (b : Bool) (o : Offered) (kept : KeptCounters) (c : CounterId) → (keeps kept c ≡ false → (if b then drawn_from c o else 0) ≡ 0)
    → (0 < (if b then drawn_from c o else 0) → drawn_in kept c + (if b then drawn_from c o else 0) ≤ sum_most)
    → drawn_in (if b then moved_by change.Draw o kept else kept) c ≡ drawn_in kept c + (if b then drawn_from c o else 0)
one_drawn true o kept c none fits = taken o kept c none fits
one_drawn false o kept c none fits = omega arith

-- the sum over the held ones
abbrev held_sum : Holders → ResourceSlice → CounterId → List Device → ℕ
held_sum h x c [] = 0
held_sum h x c (d ∷ ds) = (if is_some (holder_in h (id_of x d)) then drawn_from c (offered_by x d) else 0) + held_sum h x c ds

no_part : (a s : ℕ) → a + s ≡ 0 → a ≡ 0
no_part a s e = omega arith

no_rest : (a s : ℕ) → a + s ≡ 0 → s ≡ 0
no_rest a s e = omega arith

part_fits : (n a s : ℕ) → (0 < a + s → n + (a + s) ≤ sum_most) → 0 < a → n + a ≤ sum_most
part_fits n a s h p = omega (arith, h (omega arith))

all_drawn : (h : Holders) (x : ResourceSlice) (c : CounterId) (ds : List Device) (kept : KeptCounters) → (keeps kept c ≡ false → held_sum h x c ds ≡ 0)
    → (0 < held_sum h x c ds → drawn_in kept c + held_sum h x c ds ≤ sum_most) → drawn_in (added_held h x ds kept) c ≡ drawn_in kept c + held_sum h x c ds
unfolding added_held
all_drawn h x c [] kept none fits = omega arith
all_drawn h x c (d ∷ ds) kept none fits =
    let b : Bool = is_some (holder_in h (id_of x d)) in
    let a : ℕ = if b then drawn_from c (offered_by x d) else 0 in
    let s : ℕ = held_sum h x c ds in
    let step : drawn_in (held_device h x d kept) c ≡ drawn_in kept c + a =
    one_drawn b (offered_by x d) kept c (λ n. no_part a s (none n)) (part_fits (drawn_in kept c) a s fits) in
    all_drawn h x c ds (held_device h x d kept) (λ n. no_rest a s (none (sym (ap is_some (one_value b (offered_by x d) kept c)) ∙ n)))
    (left_fits (drawn_in kept c) a s (drawn_in (held_device h x d kept) c) fits step)
    ∙ ap (λ (m : ℕ). m + s) step
    ∙ together (drawn_in kept c) a s

sum_step : (b : Bool) (c : CounterId) (o : Offered) (os : List Offered) (s : ℕ) → s ≡ sum_by (drawn_from c) os
    → (if b then drawn_from c o else 0) + s ≡ sum_by (drawn_from c) (cond b (o ∷ os) os)
sum_step true c o os s e = ap (λ (n : ℕ). drawn_from c o + n) e ∙ sym (sum_by-cons (drawn_from c) o os)
sum_step false c o os s e = omega arith

sum_is : (h : Holders) (x : ResourceSlice) (c : CounterId) (ds : List Device)
    → held_sum h x c ds ≡ sum_by (drawn_from c) (filter (λ o. is_some (holder_in h (id_in o))) (map (offered_by x) ds))
sum_is h x c [] = refl
sum_is h x c (d ∷ ds) =
    sum_step (is_some (holder_in h (id_of x d))) c (offered_by x d) (filter (λ (o : Offered). is_some (holder_in h (id_in o))) (map (offered_by x) ds)) (held_sum h x c ds) (sum_is h x c ds)

held_is : (h : Holders) (x : ResourceSlice) (c : CounterId) → held_sum h x c x.devices ≡ drawn_by c (offered_held h x)
unfolding drawn_by offered_held
held_is h x c = sum_is h x c x.devices

-- what the held devices of a slice add
held_drawn : (h : Holders) (x : ResourceSlice) (kept : KeptCounters) (c : CounterId) → (keeps kept c ≡ false → drawn_by c (offered_held h x) ≡ 0)
    → (0 < drawn_by c (offered_held h x) → drawn_in kept c + drawn_by c (offered_held h x) ≤ sum_most)
    → drawn_in (added_held h x x.devices kept) c ≡ drawn_in kept c + drawn_by c (offered_held h x)
held_drawn h x kept c none fits =
    let is = held_is h x c in
    all_drawn h x c x.devices kept (λ n. is ∙ none n) (rw (← is) at fits) ∙ ap (λ (s : ℕ). drawn_in kept c + s) is

pub held_drawn_after : (h : Holders) (x : ResourceSlice) (old new : KeptCounters) → new ≡ added_held h x x.devices old → (c : CounterId) → (keeps old c ≡ false → drawn_by c (offered_held h x) ≡ 0)
    → (0 < drawn_by c (offered_held h x) → drawn_in old c + drawn_by c (offered_held h x) ≤ sum_most)
    → drawn_in new c ≡ drawn_in old c + drawn_by c (offered_held h x)
held_drawn_after h x old new e c none fits = ap (λ (t : KeptCounters). drawn_in t c) e ∙ held_drawn h x old c none fits
