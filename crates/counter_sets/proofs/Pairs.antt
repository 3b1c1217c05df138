-- Who holds devices, as a list of pairs, and what the held devices of several slices draw.
use Rattle.std.proofs.Common.{◌≡◌, ℕ, ◌+◌, List, [], ◌∷◌, ◌++◌, Bool, true, false, ◌&&◌, ◌||◌, Option, None, Some, refl, sym, ap, ap₂, ◌∙◌, if◌then◌else◌, cond, map, filter}
use Rattle.std.specs.Cmp.Lexicographic.{same_text}
use Rattle.std.specs.List.{flat_map, sum_by}
use Rattle.std.specs.Map.{lookup}
use Rattle.std.specs.Option.{is_some}
use Rattle.std.proofs.Common.{append-nil}
use Rattle.std.proofs.lemmas.Bool.{and_parts}
use Rattle.std.proofs.lemmas.Grind.{flat_map-append}
use Rattle.std.proofs.lemmas.List.Sums.{sum_by-append}
use Rattle.object_fields.specs.declared.key.DeviceId.{DeviceId}
use Rattle.object_fields.specs.declared.key.Key.{Key}
use Rattle.api_slice.specs.declared.types.ResourceSlice.{ResourceSlice}
use Rattle.pool_view.specs.Names.{device_eq, text_eq}
use Rattle.pool_view.specs.Pools.{Offered, id_in, offered_by}
use Rattle.request_rules.specs.Draws.{CounterId, drawn, drawn_by, drawn_from, held_devices, held_in, is_held}
use Rattle.counter_sets.specs.Holding.{AreHeld, Holders, holder_in, offered_held, put_driver}
use Rattle.counter_sets.specs.Totals.{KeptCounters, drawn_in}
use Rattle.counter_sets.proofs.Holding.{holder_after}

-- ---- one pair more

same_id_parts : (d e p q n m : List ℕ) → d ≡ e → p ≡ q → n ≡ m → ◌≡◌ {A = DeviceId} (record { driver = d; pool = p; device = n }) (record { driver = e; pool = q; device = m })
same_id_parts d e p q n m f g h = cc

pub same_from_device_eq : (a b : DeviceId) → device_eq a b ≡ true → a ≡ b
same_from_device_eq a b e =
    let outer = and_parts (text_eq a.driver b.driver) (text_eq a.pool b.pool && text_eq a.device b.device) e in
    let inner = and_parts (text_eq a.pool b.pool) (text_eq a.device b.device) outer.1 in
    same_id_parts a.driver b.driver a.pool b.pool a.device b.device (same_text a.driver b.driver (sym outer.0)) (same_text a.pool b.pool (sym inner.0)) (same_text a.device b.device (sym inner.1))

abbrev pair_at : List (DeviceId × Key) → DeviceId → Option Key
pair_at pairs id = lookup (λ d. device_eq d id) pairs

head_step : (b t : Bool) (x v : Key) (o r : Option Key) → (t ≡ true → cond b (Some x) o ≡ None) → r ≡ (if t then Some v else o)
    → cond b (Some x) r ≡ (if t then Some v else cond b (Some x) o)
head_step true true x v o r h e = absurd (let n = h refl in cc)
head_step true false x v o r h e = refl
head_step false t x v o r h e = e

rest_none : (b t : Bool) (x : Key) (o : Option Key) → (t ≡ true → cond b (Some x) o ≡ None) → t ≡ true → o ≡ None
rest_none true t x o h e = absurd (let n = h e in cc)
rest_none false t x o h e = h e

pair_appended : (pairs : List (DeviceId × Key)) (d : DeviceId) (key : Key) (id : DeviceId) → (device_eq d id ≡ true → pair_at pairs id ≡ None)
    → pair_at (pairs ++ (d, key) ∷ []) id ≡ (if device_eq d id then Some key else pair_at pairs id)
pair_appended [] d key id h = refl
pair_appended (p ∷ ps) d key id h =
    head_step (device_eq p.0 id) (device_eq d id) p.1 key (pair_at ps id) (pair_at (ps ++ (d, key) ∷ []) id) h
    (pair_appended ps d key id (rest_none (device_eq p.0 id) (device_eq d id) p.1 (pair_at ps id) h))

pub pairs_after : (d : DeviceId) (key : Key) (old new : Holders) → new ≡ put_driver d key old → (pairs : List (DeviceId × Key)) → AreHeld old pairs → holder_in old d ≡ None
    → AreHeld new (pairs ++ (d, key) ∷ [])
pairs_after d key old new e pairs held none = record {
  holder = λ id.
      holder_after d key old new e id
      ∙ ap (λ (o : Option Key). if device_eq d id then Some key else o) (held.holder id)
      ∙ sym (pair_appended pairs d key id (λ t. ap (pair_at pairs) (sym (same_from_device_eq d id t)) ∙ sym (held.holder d) ∙ none));
}

-- ---- held devices

some_step : (b : Bool) (x : Key) (o : Option Key) (r : Bool) → is_some o ≡ r → is_some (cond b (Some x) o) ≡ (b || r)
some_step true x o r e = refl
some_step false x o r e = e

some_pair : (pairs : List (DeviceId × Key)) (id : DeviceId) → is_some (pair_at pairs id) ≡ is_held pairs id
some_pair [] id = refl
some_pair (p ∷ ps) id = some_step (device_eq p.0 id) p.1 (pair_at ps id) (is_held ps id) (some_pair ps id)

same_test : (h : Holders) (pairs : List (DeviceId × Key)) (os : List Offered) → AreHeld h pairs
    → filter (λ o. is_some (holder_in h (id_in o))) os ≡ filter (λ o. is_held pairs (id_in o)) os
same_test h pairs [] held = refl
same_test h pairs (o ∷ os) held =
    ap₂ (λ (b : Bool) (r : List Offered). cond b (o ∷ r) r) (ap is_some (held.holder (id_in o)) ∙ some_pair pairs (id_in o)) (same_test h pairs os held)

-- the held devices of a slice, by the pairs
pub held_of_pairs : (h : Holders) (pairs : List (DeviceId × Key)) (x : ResourceSlice) → AreHeld h pairs → offered_held h x ≡ held_in pairs x
unfolding offered_held
held_of_pairs h pairs x held = same_test h pairs (map (offered_by x) x.devices) held

-- ---- what the held devices of one slice more draw

drawn_more : (slices : List ResourceSlice) (pairs : List (DeviceId × Key)) (x : ResourceSlice) (c : CounterId)
    → drawn (slices ++ x ∷ []) pairs c ≡ drawn slices pairs c + drawn_by c (held_in pairs x)
unfolding drawn held_devices drawn_by
drawn_more slices pairs x c =
    ap (sum_by (drawn_from c)) (flat_map-append (held_in pairs) slices (x ∷ []) ∙ ap (λ (os : List Offered). flat_map (held_in pairs) slices ++ os) (append-nil (held_in pairs x)))
    ∙ sum_by-append (drawn_from c) (flat_map (held_in pairs) slices) (held_in pairs x)

pub totals_more : (h : Holders) (pairs : List (DeviceId × Key)) (slices : List ResourceSlice) (x : ResourceSlice) (old new : KeptCounters) → AreHeld h pairs
    → ((c : CounterId) → drawn_in old c ≡ drawn slices pairs c) → ((c : CounterId) → drawn_in new c ≡ drawn_in old c + drawn_by c (offered_held h x))
    → (c : CounterId) → drawn_in new c ≡ drawn (slices ++ x ∷ []) pairs c
totals_more h pairs slices x old new held before more c =
    more c ∙ ap₂ (λ (n m : ℕ). n + m) (before c) (ap (drawn_by c) (held_of_pairs h pairs x held)) ∙ sym (drawn_more slices pairs x c)
