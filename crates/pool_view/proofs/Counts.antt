-- How many devices all slices have, with one more, one replaced, or one less.
use Rattle.std.proofs.Common.{ℕ, ◌+◌, ◌-◌, ◌≤◌, ◌≡◌, ◌∙◌, List, [], ◌∷◌, Bool, true, false, cond, Option, None, Some, length, refl, sym, ap, subst, arith}
use Rattle.std.specs.Prelude.{nat_le}
use Rattle.std.proofs.lemmas.Bool.{leb-true}
use Rattle.std.specs.Ordering.{is_eq}
use Rattle.std.specs.declared.cmp.Ordering.{Ordering}
use Rattle.std.specs.declared.cmp.Ordering.TheVariants.{Less, Equal, Greater}
use Rattle.std.specs.BTreeMap.{insert_entry, is_at}
use Rattle.std.specs.Map.{lookup, remove_entry, set_value}
use Rattle.api_slice.specs.declared.types.ResourceSlice.{ResourceSlice}
use Rattle.pool_view.specs.declared.stored.Stored.{Stored}
use Rattle.pool_view.specs.Inventory.{IsKept, Named, created, device_count, devices_by, devices_most, has_room_for, put_by, updated, with_named, without_named}
use Rattle.pool_view.specs.Names.{at_name, text_cmp}
use Rattle.pool_view.proofs.Named.{named_with, named_without}

without_by : (test : List ℕ → Bool) (b : Bool) (e : List ℕ × Stored ResourceSlice) (es : Named ResourceSlice) → test e.0 ≡ b
    → device_count (remove_entry test es) + devices_by (lookup test es) ≡ device_count es
    → device_count (remove_entry test (e ∷ es)) + devices_by (lookup test (e ∷ es)) ≡ device_count (e ∷ es)
without_by test true e es is later = rw (is) (omega arith)
without_by test false e es is later = rw (is) (omega (arith, later))

removed : (test : List ℕ → Bool) (es : Named ResourceSlice) → device_count (remove_entry test es) + devices_by (lookup test es) ≡ device_count es
removed test [] = refl
removed test (e ∷ es) = without_by test (test e.0) e es refl (removed test es)

-- without a slice there are as many devices less as it has
pub count_without : (name : List ℕ) (slices : Named ResourceSlice) → device_count (without_named name slices) + devices_by (at_name slices name) ≡ device_count slices
count_without name slices = removed (is_at (text_cmp name)) slices

set_by : (test : List ℕ → Bool) (b : Bool) (e : List ℕ × Stored ResourceSlice) (es : Named ResourceSlice) (v w : Stored ResourceSlice) → test e.0 ≡ b → lookup test (e ∷ es) ≡ Some v
    → (lookup test es ≡ Some v → device_count (set_value test es w) + length v.object.devices ≡ device_count es + length w.object.devices)
    → device_count (set_value test (e ∷ es) w) + length v.object.devices ≡ device_count (e ∷ es) + length w.object.devices
set_by test true e es v w is at later =
    let same : Some e.1 ≡ Some v = sym (ap (λ b. cond b (Some e.1) (lookup test es)) is) ∙ at in
    let count : length e.1.object.devices ≡ length v.object.devices = ap (λ o. devices_by o) same in
    rw (is) (omega (arith, count))
set_by test false e es v w is at later =
    let there : lookup test es ≡ Some v = sym (ap (λ b. cond b (Some e.1) (lookup test es)) is) ∙ at in
    rw (is) (omega (arith, later there))

set : (test : List ℕ → Bool) (es : Named ResourceSlice) (v w : Stored ResourceSlice) → lookup test es ≡ Some v → device_count (set_value test es w) + length v.object.devices ≡ device_count es + length w.object.devices
set test [] v w at = absurd cc
set test (e ∷ es) v w at = set_by test (test e.0) e es v w refl at (λ h. set test es v w h)

new_by : (o : Ordering) (name : List ℕ) (e : List ℕ × Stored ResourceSlice) (es : Named ResourceSlice) (w : Stored ResourceSlice) → text_cmp name e.0 ≡ o → at_name (e ∷ es) name ≡ None
    → (at_name es name ≡ None → device_count (insert_entry text_cmp es name w) ≡ device_count es + length w.object.devices)
    → device_count (insert_entry text_cmp (e ∷ es) name w) ≡ device_count (e ∷ es) + length w.object.devices
new_by Less name e es w is at later = rw (is) (omega arith)
new_by Equal name e es w is at later =
    let there : Some e.1 ≡ None = sym (ap (λ o. cond (is_eq o) (Some e.1) (at_name es name)) is) ∙ at in
    absurd cc
new_by Greater name e es w is at later =
    let gone : at_name es name ≡ None = sym (ap (λ o. cond (is_eq o) (Some e.1) (at_name es name)) is) ∙ at in
    rw (is) (omega (arith, later gone))

new : (name : List ℕ) (es : Named ResourceSlice) (w : Stored ResourceSlice) → at_name es name ≡ None → device_count (insert_entry text_cmp es name w) ≡ device_count es + length w.object.devices
new name [] w at = omega arith
new name (e ∷ es) w at = new_by (text_cmp name e.0) name e es w refl at (λ h. new name es w h)

put : (place : ℕ) (name : List ℕ) (x : ResourceSlice) (slices : Named ResourceSlice) (o : Option (Stored ResourceSlice)) → at_name slices name ≡ o
    → device_count (put_by place name x slices o) + devices_by o ≡ device_count slices + length x.devices
put place name x slices None is = omega (arith, new name slices (created place x) is)
put place name x slices (Some old) is = set (is_at (text_cmp name)) slices old (updated place x old) is

-- with a slice there are as many devices more as it has, and as many less as the replaced one has
pub count_with : (place : ℕ) (name : List ℕ) (x : ResourceSlice) (slices : Named ResourceSlice) → device_count (with_named place name x slices) + devices_by (at_name slices name) ≡ device_count slices + length x.devices
count_with place name x slices = put place name x slices (at_name slices name) refl

at_most : (a b : ℕ) → nat_le a b ≡ true → a ≤ b
at_most a b e = leb-true a b e

-- a slice has at most as many devices as all
pub few_at : (name : List ℕ) (slices : Named ResourceSlice) (devices n : ℕ) → devices ≡ device_count slices → n ≡ devices_by (at_name slices name) → n ≤ devices
few_at name slices devices n sum is = let c = count_without name slices in omega (arith, c, sum, is)

-- what is kept without a slice
pub kept_without : (name : List ℕ) (slices : Named ResourceSlice) (devices n : ℕ) → IsKept slices devices → n ≡ devices_by (at_name slices name) → IsKept (without_named name slices) (devices - n)
kept_without name slices devices n kept is =
    let c = count_without name slices in
    let s = kept.sum in
    let w = kept.within in
    record { sum = omega (arith, c, s, is); within = omega (arith, w); named = named_without name slices kept.named }

-- and of no slices
pub kept_none : (slices : Named ResourceSlice) → slices ≡ [] → IsKept slices 0
kept_none slices none = subst (λ (es : Named ResourceSlice). IsKept es 0) (sym none) (record { sum = refl; within = omega arith; named = tt })

-- and with one that there is room for
pub kept_with : (place : ℕ) (name : List ℕ) (x : ResourceSlice) (slices table : Named ResourceSlice) (devices n m : ℕ) → IsKept slices devices → name ≡ x.name → n ≡ devices_by (at_name slices name)
    → m ≡ length x.devices → has_room_for slices x ≡ true → table ≡ with_named place name x slices → IsKept table (devices - n + m)
kept_with place name x slices table devices n m kept own is many room put =
    let at : n ≡ devices_by (at_name slices x.name) = is ∙ ap (λ (t : List ℕ). devices_by (at_name slices t)) own in
    let set : table ≡ with_named place x.name x slices = put ∙ ap (λ (t : List ℕ). with_named place t x slices) own in
    let c = count_with place x.name x slices in
    let d = count_without x.name slices in
    let s = kept.sum in
    let fits = at_most (device_count (without_named x.name slices) + length x.devices) devices_most room in
    let whole : IsKept (with_named place x.name x slices) (devices - n + m) = record {
      sum = omega (arith, c, d, s, at, many);
      within = omega (arith, d, s, at, many, fits);
      named = named_with place x slices kept.named;
    } in
    subst (λ (t : Named ResourceSlice). IsKept t (devices - n + m)) (sym set) whole
