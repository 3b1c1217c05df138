-- The held ones among devices, and who holds a device.
use Rattle.std.proofs.Common.{ℕ, zero, suc, ◌<◌, ◌≡◌, List, [], ◌∷◌, Bool, true, false, ◌&&◌, ◌||◌, cond, length, get_or, Option, None, Some, refl, sym, ap, ap₂, ◌∙◌}
use Rattle.std.specs.List.{list_any, slice_get}
use Rattle.std.specs.Map.{lookup}
use Rattle.std.specs.Option.{is_some}
use Rattle.std.proofs.lemmas.List.Folds.{list_any-append}
use Rattle.object_fields.specs.declared.key.DeviceId.{DeviceId}
use Rattle.object_fields.specs.declared.key.Key.{Key}
use Rattle.pool_view.specs.Names.{device_eq}
use Rattle.pool_view.specs.Pools.{Offered, id_in}
use Rattle.counter_sets.specs.Holding.{AreHeld, Holders, holder_in}
use Rattle.request_rules.specs.Rules.{id_by}
use Rattle.allocator.specs.Holding.{flags_of, held_among, held_at, pair_by}
use Rattle.allocator.proofs.Equal.{device_eq-same, same_from_device_eq}
use Rattle.allocator.proofs.Places.{get_map, there}

-- one of the pairs is the device's
abbrev pub has_pair : List (DeviceId × Key) → DeviceId → Bool
has_pair held id = list_any (λ (e : DeviceId × Key). device_eq e.0 id) held

-- one of the devices has the id
abbrev has_device : List Offered → DeviceId → Bool
has_device ds id = list_any (λ o. device_eq (id_in o) id) ds

-- ---- among devices

one_pair : (b : Bool) (a id : DeviceId) (k : Option Key) → device_eq a id ≡ b → has_pair (pair_by a k) id ≡ (b && is_some k)
one_pair true a id None e = refl
one_pair true a id (Some k) e = ap (λ (t : Bool). t || false) e
one_pair false a id None e = refl
one_pair false a id (Some k) e = ap (λ (t : Bool). t || false) e

same_holder : (h : Holders) (b : Bool) (a id : DeviceId) → device_eq a id ≡ b → (b && is_some (holder_in h a)) ≡ (b && is_some (holder_in h id))
same_holder h true a id e = ap (λ (d : DeviceId). is_some (holder_in h d)) (same_from_device_eq a id e)
same_holder h false a id e = refl

or_and : (a b s : Bool) → ((a && s) || (b && s)) ≡ ((a || b) && s)
or_and true true true = refl
or_and true true false = refl
or_and true false true = refl
or_and true false false = refl
or_and false b s = refl

any_held : (h : Holders) (ds : List Offered) (id : DeviceId) → has_pair (held_among h ds) id ≡ (has_device ds id && is_some (holder_in h id))
unfolding held_among
any_held h [] id = refl
any_held h (o ∷ ds) id =
    list_any-append (λ (e : DeviceId × Key). device_eq e.0 id) (pair_by (id_in o) (holder_in h (id_in o))) (held_among h ds)
    ∙ ap₂ (λ (a b : Bool). a || b)
    (one_pair (device_eq (id_in o) id) (id_in o) id (holder_in h (id_in o)) refl ∙ same_holder h (device_eq (id_in o) id) (id_in o) id refl)
    (any_held h ds id)
    ∙ or_and (device_eq (id_in o) id) (has_device ds id) (is_some (holder_in h id))

or_true : (b : Bool) → (b || true) ≡ true
or_true true = refl
or_true false = refl

device_there : (ds : List Offered) (i : ℕ) (o : Offered) → slice_get ds i ≡ Some o → has_device ds (id_in o) ≡ true
device_there [] i o e = absurd (cc)
device_there (p ∷ ds) zero o e =
    let f : p ≡ o = cc in
    ap (λ (z : Offered). device_eq (id_in z) (id_in o) || has_device ds (id_in o)) f ∙ ap (λ (t : Bool). t || has_device ds (id_in o)) (device_eq-same (id_in o))
device_there (p ∷ ds) (suc i) o e = ap (λ (t : Bool). device_eq (id_in p) (id_in o) || t) (device_there ds i o e) ∙ or_true (device_eq (id_in p) (id_in o))

-- a pair of one of the devices is among them if and only if its device is held
pub held_there : (h : Holders) (ds : List Offered) (i : ℕ) (o : Offered) → slice_get ds i ≡ Some o → has_pair (held_among h ds) (id_by (slice_get ds i)) ≡ is_some (holder_in h (id_in o))
held_there h ds i o e =
    ap (λ (z : Option Offered). has_pair (held_among h ds) (id_by z)) e
    ∙ any_held h ds (id_in o)
    ∙ ap (λ (t : Bool). t && is_some (holder_in h (id_in o))) (device_there ds i o e)

flag_got : (xs : List Bool) (i : ℕ) (b x : Bool) → slice_get xs i ≡ Some b → x ≡ get_or xs i x → x ≡ b
flag_got [] i b x e f = absurd (cc)
flag_got (y ∷ xs) zero b x e f = let g : y ≡ b = cc in f ∙ g
flag_got (y ∷ xs) (suc i) b x e f = flag_got xs i b x e f

-- the flag at a position
pub flag_at : (h : Holders) (ds : List Offered) (flags : List Bool) (i : ℕ) (x : Bool) → flags ≡ flags_of h ds → i < length ds → x ≡ get_or flags i x
    → x ≡ held_at (record { devices = ds; held = held_among h ds }) i
flag_at h ds flags i x e n f =
    let o = there ds i n in
    flag_got flags i (is_some (holder_in h (id_in o.0))) x
    (ap (λ (l : List Bool). slice_get l i) e ∙ get_map (λ p. is_some (holder_in h (id_in p))) ds i o.0 o.1) f
    ∙ sym (held_there h ds i o.0 o.1)

-- ---- pairs

some_step : (b : Bool) (x : Key) (o : Option Key) (r : Bool) → is_some o ≡ r → is_some (cond b (Some x) o) ≡ (b || r)
some_step true x o r e = refl
some_step false x o r e = e

some_pair : (pairs : List (DeviceId × Key)) (id : DeviceId) → is_some (lookup (λ d. device_eq d id) pairs) ≡ has_pair pairs id
some_pair [] id = refl
some_pair (p ∷ ps) id = some_step (device_eq p.0 id) p.1 (lookup (λ d. device_eq d id) ps) (has_pair ps id) (some_pair ps id)

pub pair_held : (h : Holders) (pairs : List (DeviceId × Key)) (id : DeviceId) → AreHeld h pairs → has_pair pairs id ≡ is_some (holder_in h id)
pair_held h pairs id a = sym (ap is_some (a.holder id) ∙ some_pair pairs id)

-- the pairs that are held, and those among the devices, have the same ones of the devices
pub held_alike : (h : Holders) (pairs : List (DeviceId × Key)) (ds : List Offered) (i : ℕ) → AreHeld h pairs → i < length ds → has_pair pairs (id_by (slice_get ds i)) ≡ has_pair (held_among h ds) (id_by (slice_get ds i))
held_alike h pairs ds i a n =
    let o = there ds i n in
    ap (λ (z : Option Offered). has_pair pairs (id_by z)) o.1 ∙ pair_held h pairs (id_in o.0) a ∙ sym (held_there h ds i o.0 o.1)
