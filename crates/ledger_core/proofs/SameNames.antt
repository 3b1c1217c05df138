-- Names are equal where the tests say so.
use Rattle.std.proofs.Common.{ℕ, ◌≡◌, ◌∙◌, List, true, ◌&&◌, refl, sym}
use Rattle.std.specs.Cmp.Lexicographic.{same_text, texts_ties}
use Rattle.std.specs.Ordering.{is_eq, ordering_then}
use Rattle.std.specs.declared.cmp.Ordering.{Ordering}
use Rattle.std.specs.declared.cmp.Ordering.TheVariants.{Less, Equal, Greater}
use Rattle.std.proofs.lemmas.Bool.{and_from, and_parts}
use Rattle.std.proofs.lemmas.Cmp.{nat_list_eq_equiv}
use Rattle.object_fields.specs.declared.key.DeviceId.{DeviceId}
use Rattle.object_fields.specs.declared.key.Key.{Key}
use Rattle.pool_view.specs.Names.{device_eq, key_cmp, key_eq, text_cmp, text_eq}

pub text_same : (a b : List ℕ) → text_eq a b ≡ true → a ≡ b
text_same a b e = same_text a b (sym e)

pub text_self : (a : List ℕ) → text_eq a a ≡ true
text_self a = nat_list_eq_equiv.refl a

same_device : (d e p q n m : List ℕ) → d ≡ e → p ≡ q → n ≡ m → ◌≡◌ {A = DeviceId} (record { driver = d; pool = p; device = n }) (record { driver = e; pool = q; device = m })
same_device d e p q n m f g h = cc

pub device_same : (a b : DeviceId) → device_eq a b ≡ true → a ≡ b
device_same a b e =
    let outer = and_parts (text_eq a.driver b.driver) (text_eq a.pool b.pool && text_eq a.device b.device) e in
    let inner = and_parts (text_eq a.pool b.pool) (text_eq a.device b.device) outer.1 in
    same_device a.driver b.driver a.pool b.pool a.device b.device (text_same a.driver b.driver outer.0) (text_same a.pool b.pool inner.0) (text_same a.device b.device inner.1)

same_key : (m n a b : List ℕ) → m ≡ n → a ≡ b → ◌≡◌ {A = Key} (record { namespace = m; name = a }) (record { namespace = n; name = b })
same_key m n a b e f = cc

pub key_same : (a b : Key) → key_eq a b ≡ true → a ≡ b
key_same a b e =
    let parts = and_parts (text_eq a.namespace b.namespace) (text_eq a.name b.name) e in
    same_key a.namespace b.namespace a.name b.name (text_same a.namespace b.namespace parts.0) (text_same a.name b.name parts.1)

pub key_self : (k : Key) → key_eq k k ≡ true
key_self k = and_from (text_eq k.namespace k.namespace) (text_eq k.name k.name) (text_self k.namespace) (text_self k.name)

same_by_cmp : (a b : List ℕ) → is_eq (text_cmp a b) ≡ true → a ≡ b
same_by_cmp a b e = text_same a b (texts_ties a b ∙ e)

then_by : (o p : Ordering) → is_eq (ordering_then o p) ≡ true → (is_eq o ≡ true) × (is_eq p ≡ true)
then_by Less p e = absurd (cc)
then_by Equal p e = (refl, e)
then_by Greater p e = absurd (cc)

pub key_found : (a b : Key) → is_eq (key_cmp a b) ≡ true → a ≡ b
key_found a b e =
    let parts = then_by (text_cmp a.namespace b.namespace) (text_cmp a.name b.name) e in
    same_key a.namespace b.namespace a.name b.name (same_by_cmp a.namespace b.namespace parts.0) (same_by_cmp a.name b.name parts.1)
