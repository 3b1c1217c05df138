-- Device ids are equal if the test says so.
use Rattle.std.proofs.Common.{ℕ, ◌≡◌, List, true, ◌&&◌, sym}
use Rattle.std.specs.Cmp.Lexicographic.{same_text}
use Rattle.std.proofs.lemmas.Bool.{and_from, and_parts}
use Rattle.std.proofs.lemmas.Cmp.{nat_list_eq_equiv}
use Rattle.object_fields.specs.declared.key.DeviceId.{DeviceId}
use Rattle.pool_view.specs.Names.{device_eq, text_eq}

text_eq-same : (a : List ℕ) → text_eq a a ≡ true
text_eq-same a = nat_list_eq_equiv.refl a

pub same_from_text_eq : (a b : List ℕ) → text_eq a b ≡ true → a ≡ b
same_from_text_eq a b e = same_text a b (sym e)

pub device_eq-same : (a : DeviceId) → device_eq a a ≡ true
device_eq-same a =
    and_from (text_eq a.driver a.driver) (text_eq a.pool a.pool && text_eq a.device a.device) (text_eq-same a.driver)
    (and_from (text_eq a.pool a.pool) (text_eq a.device a.device) (text_eq-same a.pool) (text_eq-same a.device))

same_device : (d e p q n m : List ℕ) → d ≡ e → p ≡ q → n ≡ m → ◌≡◌ {A = DeviceId} (record { driver = d; pool = p; device = n }) (record { driver = e; pool = q; device = m })
same_device d e p q n m f g h = cc

pub same_from_device_eq : (a b : DeviceId) → device_eq a b ≡ true → a ≡ b
same_from_device_eq a b e =
    let outer = and_parts (text_eq a.driver b.driver) (text_eq a.pool b.pool && text_eq a.device b.device) e in
    let inner = and_parts (text_eq a.pool b.pool) (text_eq a.device b.device) outer.1 in
    same_device a.driver b.driver a.pool b.pool a.device b.device (same_from_text_eq a.driver b.driver outer.0) (same_from_text_eq a.pool b.pool inner.0) (same_from_text_eq a.device b.device inner.1)
