-- The index of a device in the table of indexes.
use Rattle.std.proofs.Common.{ℕ, ◌+◌, ◌≡◌, ◌∙◌, List, [], ◌∷◌, Bool, true, false, cond, Option, None, Some, is_some, refl, sym, ap}
use Rattle.std.specs.Prelude.{◌&&◌}
use Rattle.std.specs.BTreeMap.{insert_entry, is_at}
use Rattle.std.specs.Map.{lookup}
use Rattle.std.specs.Cmp.Lexicographic.{texts_ties, nat_list_eq_equiv}
use Rattle.std.specs.Ordering.{is_eq, ordering_then}
use Rattle.std.specs.declared.cmp.Ordering.{Ordering}
use Rattle.std.specs.declared.cmp.Ordering.TheVariants.{Less, Equal, Greater}
use Rattle.object_fields.specs.declared.key.DeviceId.{DeviceId}
use Rattle.pool_view.specs.Names.{device_eq, text_cmp, text_eq}
use Rattle.pool_view.specs.Pools.{Offered, id_in}
use Rattle.pool_view.specs.Views.{Places, device_cmp, places_from, position_from, position_of, with_place}
use Rattle.pool_view.proofs.Found.{IsExact, at_insert}
use Rattle.pool_view.proofs.PoolGroups.{then_equal, text_same, text_equal, then_is}

same_parts : (d e p q n m : List ℕ) → d ≡ e → p ≡ q → n ≡ m → ◌≡◌ {A = DeviceId} (record { driver = d; pool = p; device = n }) (record { driver = e; pool = q; device = m })
same_parts d e p q n m f g h = cc

device_same : (a b : DeviceId) → device_cmp a b ≡ Equal → a ≡ b
device_same a b e =
    let outer = then_equal (text_cmp a.driver b.driver) (ordering_then (text_cmp a.pool b.pool) (text_cmp a.device b.device)) e in
    let inner = then_equal (text_cmp a.pool b.pool) (text_cmp a.device b.device) outer.1 in
    same_parts a.driver b.driver a.pool b.pool a.device b.device (text_same a.driver b.driver outer.0) (text_same a.pool b.pool inner.0) (text_same a.device b.device inner.1)

device_equal : (a : DeviceId) → device_cmp a a ≡ Equal
device_equal a =
    ap (λ (o : Ordering). ordering_then o (ordering_then (text_cmp a.pool a.pool) (text_cmp a.device a.device))) (text_equal a.driver)
    ∙ ap (λ (o : Ordering). ordering_then o (text_cmp a.device a.device)) (text_equal a.pool) ∙ text_equal a.device

devices_exact : IsExact device_cmp
devices_exact = record { same = device_same; equal = device_equal }

is_equal : (o : Ordering) → is_eq o ≡ true → o ≡ Equal
is_equal Less e = absurd (cc)
is_equal Equal e = refl
is_equal Greater e = absurd (cc)

-- an id is at another if they are equal
is_id : (q k : DeviceId) → is_eq (device_cmp q k) ≡ device_eq k q
is_id q k =
    then_is (text_cmp q.driver k.driver) (ordering_then (text_cmp q.pool k.pool) (text_cmp q.device k.device))
    ∙ ap (λ (b : Bool). is_eq (text_cmp q.driver k.driver) && b) (then_is (text_cmp q.pool k.pool) (text_cmp q.device k.device))
    ∙ ap (λ (b : Bool). b && (is_eq (text_cmp q.pool k.pool) && is_eq (text_cmp q.device k.device))) (sym (texts_ties q.driver k.driver) ∙ nat_list_eq_equiv.symm q.driver k.driver)
    ∙ ap (λ (b : Bool). text_eq k.driver q.driver && (b && is_eq (text_cmp q.device k.device))) (sym (texts_ties q.pool k.pool) ∙ nat_list_eq_equiv.symm q.pool k.pool)
    ∙ ap (λ (b : Bool). text_eq k.driver q.driver && (text_eq k.pool q.pool && b)) (sym (texts_ties q.device k.device) ∙ nat_list_eq_equiv.symm q.device k.device)

abbrev first : Option ℕ → Option ℕ → Option ℕ
first None y = y
first (Some x) y = Some x

keep : (r : Option ℕ) → r ≡ first r None
keep None = refl
keep (Some n) = refl

abbrev at : DeviceId → Places → Option ℕ
at q ps = lookup (is_at (device_cmp q)) ps

-- with k at n if it has no index: q keeps its index, or has n if it is k, or else has `else_`
put_by : (r : Option ℕ) (b : Bool) (ps : Places) (k q : DeviceId) (n : ℕ) (else_ : Option ℕ) → at k ps ≡ r → is_eq (device_cmp q k) ≡ b
    → first (at q (cond (is_some r) ps (insert_entry device_cmp ps k n))) else_ ≡ first (at q ps) (cond b (Some n) else_)
put_by (Some m) true ps k q n else_ e f =
    let here : at q ps ≡ Some m = ap (λ (j : DeviceId). at j ps) (device_same q k (is_equal (device_cmp q k) f)) ∙ e in
    ap (λ (r : Option ℕ). first r else_) here ∙ sym (ap (λ (r : Option ℕ). first r (Some n)) here)
put_by (Some m) false ps k q n else_ e f = refl
put_by None true ps k q n else_ e f =
    let none : at q ps ≡ None = ap (λ (j : DeviceId). at j ps) (device_same q k (is_equal (device_cmp q k) f)) ∙ e in
    ap (λ (r : Option ℕ). first r else_) (at_insert device_cmp devices_exact ps k q n ∙ ap (λ (b : Bool). cond b (Some n) (at q ps)) f) ∙ sym (ap (λ (r : Option ℕ). first r (Some n)) none)
put_by None false ps k q n else_ e f = ap (λ (r : Option ℕ). first r else_) (at_insert device_cmp devices_exact ps k q n ∙ ap (λ (b : Bool). cond b (Some n) (at q ps)) f)

place_in : (os : List Offered) (n : ℕ) (ps : Places) (q : DeviceId) → at q (places_from n os ps) ≡ first (at q ps) (position_from n q os)
unfolding places_from
place_in [] n ps q = keep (at q ps)
place_in (o ∷ os) n ps q =
    place_in os (n + 1) (with_place ps (id_in o) n) q
    ∙ put_by (at (id_in o) ps) (is_eq (device_cmp q (id_in o))) ps (id_in o) q n (position_from (n + 1) q os) refl refl
    ∙ ap (λ (b : Bool). first (at q ps) (cond b (Some n) (position_from (n + 1) q os))) (is_id q (id_in o))

-- the value at an id is the index of its device
pub position_is : (os : List Offered) (places : Places) (q : DeviceId) → places ≡ places_from 0 os [] → lookup (is_at (device_cmp q)) places ≡ position_of q os
position_is os places q e = ap (λ (ps : Places). at q ps) e ∙ place_in os 0 [] q
