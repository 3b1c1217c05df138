-- Names, counters and attributes are equal if the tests are true.
use Rattle.std.proofs.Common.{ℕ, ◌≡◌, List, Bool, true, false, ◌&&◌, Option, None, Some, refl, sym, ap, ◌∙◌}
use Rattle.std.specs.Option.{IsSome}
use Rattle.std.specs.Cmp.Lexicographic.{same_text}
use Rattle.std.specs.Bool.{beq}
use Rattle.std.proofs.lemmas.Bool.{and_parts, and_from}
use Rattle.std.proofs.lemmas.Cmp.{nat_list_eq_equiv, int_eq_equiv}
use Rattle.std.proofs.lemmas.Bool.Decides.{Decides-int_eq}
use Rattle.object_fields.specs.declared.key.DeviceId.{DeviceId}
use Rattle.api_slice.specs.declared.types.Attribute.{Attribute}
use Rattle.api_slice.specs.declared.types.Attribute.TheVariants.{Int, Bool as Truth, Text, Version}
use Rattle.pool_view.specs.Names.{device_eq, text_eq}
use Rattle.request_rules.specs.Draws.{CounterId, counter_eq}
use Rattle.request_rules.specs.Agreeing.{same_value}
use Rattle.request_rules.specs.Rules.{same_values}

text_eq-same : (a : List ℕ) → text_eq a a ≡ true
text_eq-same a = nat_list_eq_equiv.refl a

pub same_from_text_eq : (a b : List ℕ) → text_eq a b ≡ true → a ≡ b
same_from_text_eq a b e = same_text a b (sym e)

pub device_eq-same : (a : DeviceId) → device_eq a a ≡ true
device_eq-same a =
    and_from (text_eq a.driver a.driver) (text_eq a.pool a.pool && text_eq a.device a.device) (text_eq-same a.driver)
    (and_from (text_eq a.pool a.pool) (text_eq a.device a.device) (text_eq-same a.pool) (text_eq-same a.device))

same_device : (d e p q n m : List ℕ) → d ≡ e → p ≡ q → n ≡ m → ◌≡◌ {A = DeviceId} (record { driver = d; pool = p; device = n }) (record { driver = e; pool = q; device = m })
same_device d e p q n m f g h = cc

pub same_from_device_eq : (a b : DeviceId) → device_eq a b ≡ true → a ≡ b
same_from_device_eq a b e =
    let outer = and_parts (text_eq a.driver b.driver) (text_eq a.pool b.pool && text_eq a.device b.device) e in
    let inner = and_parts (text_eq a.pool b.pool) (text_eq a.device b.device) outer.1 in
    same_device a.driver b.driver a.pool b.pool a.device b.device (same_from_text_eq a.driver b.driver outer.0) (same_from_text_eq a.pool b.pool inner.0) (same_from_text_eq a.device b.device inner.1)

pub equal_devices : (a b : DeviceId) → a ≡ b → device_eq a b ≡ true
equal_devices a b e = sym (ap (device_eq a) e) ∙ device_eq-same a

same_counter : (d e p q s t n m : List ℕ) → d ≡ e → p ≡ q → s ≡ t → n ≡ m
    → ◌≡◌ {A = CounterId} (record { driver = d; pool = p; set = s; counter = n }) (record { driver = e; pool = q; set = t; counter = m })
same_counter d e p q s t n m f g h i = cc

pub same_from_counter_eq : (a b : CounterId) → counter_eq a b ≡ true → a ≡ b
same_from_counter_eq a b e =
    let outer = and_parts (text_eq a.driver b.driver) (text_eq a.pool b.pool && (text_eq a.set b.set && text_eq a.counter b.counter)) e in
    let middle = and_parts (text_eq a.pool b.pool) (text_eq a.set b.set && text_eq a.counter b.counter) outer.1 in
    let inner = and_parts (text_eq a.set b.set) (text_eq a.counter b.counter) middle.1 in
    same_counter a.driver b.driver a.pool b.pool a.set b.set a.counter b.counter
    (same_from_text_eq a.driver b.driver outer.0) (same_from_text_eq a.pool b.pool middle.0)
    (same_from_text_eq a.set b.set inner.0) (same_from_text_eq a.counter b.counter inner.1)

-- ---- attributes

beq-same : (a : Bool) → beq a a ≡ true
beq-same true = refl
beq-same false = refl

same_from_beq : (a b : Bool) → beq a b ≡ true → a ≡ b
same_from_beq true true e = refl
same_from_beq true false e = absurd (cc)
same_from_beq false true e = absurd (cc)
same_from_beq false false e = refl

same_value-same : (a : Attribute) → same_value a a ≡ true
same_value-same (Int n) = int_eq_equiv.refl n
same_value-same (Truth b) = beq-same b
same_value-same (Text s) = text_eq-same s
same_value-same (Version s) = text_eq-same s

same_from_same_value : (a b : Attribute) → same_value a b ≡ true → a ≡ b
same_from_same_value (Int m) (Int n) e = ap (λ z. Int z) ((Decides-int_eq m n).0 e)
same_from_same_value (Int m) (Truth b) e = absurd (cc)
same_from_same_value (Int m) (Text s) e = absurd (cc)
same_from_same_value (Int m) (Version s) e = absurd (cc)
same_from_same_value (Truth a) (Int n) e = absurd (cc)
same_from_same_value (Truth a) (Truth b) e = ap (λ z. Truth z) (same_from_beq a b e)
same_from_same_value (Truth a) (Text s) e = absurd (cc)
same_from_same_value (Truth a) (Version s) e = absurd (cc)
same_from_same_value (Text s) (Int n) e = absurd (cc)
same_from_same_value (Text s) (Truth b) e = absurd (cc)
same_from_same_value (Text s) (Text t) e = ap (λ z. Text z) (same_from_text_eq s t e)
same_from_same_value (Text s) (Version t) e = absurd (cc)
same_from_same_value (Version s) (Int n) e = absurd (cc)
same_from_same_value (Version s) (Truth b) e = absurd (cc)
same_from_same_value (Version s) (Text t) e = absurd (cc)
same_from_same_value (Version s) (Version t) e = ap (λ z. Version z) (same_from_text_eq s t e)

pub equal_values : (a b : Option Attribute) → same_values a b ≡ true → a ≡ b
equal_values a None e = absurd (cc)
equal_values None (Some y) e = absurd (cc)
equal_values (Some x) (Some y) e = ap (λ z. Some z) (same_from_same_value x y e)

pub same_values-from : (a b : Option Attribute) → a ≡ b → IsSome a → same_values a b ≡ true
same_values-from None b e s = absurd (cc)
same_values-from (Some x) b e s = sym (ap (same_values (Some x)) e) ∙ same_value-same x
