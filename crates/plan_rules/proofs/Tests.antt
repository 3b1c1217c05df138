-- Tests into facts and back.
use Rattle.std.proofs.Common.{ℕ, ◌≡◌, ◌≢◌, ◌≤◌, List, Bool, true, false, not, ◌&&◌, ◌||◌, cond, eqb, leb, Option, None, Some, refl, sym, ap, ◌∙◌, arith}
use Rattle.std.specs.Bool.{beq}
use Rattle.std.specs.Option.{option_map}
use Rattle.std.specs.Cmp.Lexicographic.{same_text}
use Rattle.std.proofs.lemmas.Bool.Decides.{nat_tests}
use Rattle.std.proofs.lemmas.Cmp.{nat_list_eq_equiv}
use Rattle.object_fields.specs.declared.key.DeviceId.{DeviceId}
use Rattle.object_fields.specs.declared.key.Key.{Key}
use Rattle.pool_view.specs.Names.{device_eq, key_eq, text_eq}
use Rattle.request_rules.specs.Lists.{or_else}

pub left_of : (a b : Bool) → (a && b) ≡ true → a ≡ true
left_of true b e = refl
left_of false b e = e

pub right_of : (a b : Bool) → (a && b) ≡ true → b ≡ true
right_of true b e = e
right_of false b e = absurd (cc)

pub both : (a b : Bool) → a ≡ true → b ≡ true → (a && b) ≡ true
both a b e f = ap (λ (t : Bool). t && b) e ∙ f

pub is_false : (a : Bool) → not a ≡ true → a ≡ false
is_false true e = absurd (cc)
is_false false e = refl

pub is_true : (a : Bool) → not a ≡ false → a ≡ true
is_true true e = refl
is_true false e = absurd (cc)

pub false_from : (a : Bool) → (a ≡ true → ⊥) → a ≡ false
false_from true h = absurd (h refl)
false_from false h = refl

pub or_left : (a b : Bool) → a ≡ true → (a || b) ≡ true
or_left a b e = ap (λ (t : Bool). t || b) e

pub or_right : (a b : Bool) → b ≡ true → (a || b) ≡ true
or_right true b e = refl
or_right false b e = e

pub truth_isnt : (a : Bool) → a ≡ true → a ≡ false → ⊥
truth_isnt true e f = absurd (cc)
truth_isnt false e f = absurd (cc)

pub same_number : (a b : ℕ) → a ≡ b → eqb a b ≡ true
same_number a b e = grind (arith, nat_tests, e)

pub number_is : (a b : ℕ) → eqb a b ≡ true → a ≡ b
number_is a b e = grind (arith, nat_tests, e)

pub other_number : (a b : ℕ) → a ≢ b → eqb a b ≡ false
other_number a b h = grind (arith, nat_tests, h)

pub at_most : (a b : ℕ) → leb a b ≡ true → a ≤ b
at_most a b e = grind (arith, nat_tests, e)

pub test_at_most : (a b : ℕ) → a ≤ b → leb a b ≡ true
test_at_most a b h = grind (arith, nat_tests, h)

-- ---- names

pub text_eq-same : (a : List ℕ) → text_eq a a ≡ true
text_eq-same a = nat_list_eq_equiv.refl a

pub same_from_text_eq : (a b : List ℕ) → text_eq a b ≡ true → a ≡ b
same_from_text_eq a b e = same_text a b (sym e)

pub device_eq-same : (a : DeviceId) → device_eq a a ≡ true
device_eq-same a =
    both (text_eq a.driver a.driver) (text_eq a.pool a.pool && text_eq a.device a.device) (text_eq-same a.driver)
    (both (text_eq a.pool a.pool) (text_eq a.device a.device) (text_eq-same a.pool) (text_eq-same a.device))

same_device : (d e p q n m : List ℕ) → d ≡ e → p ≡ q → n ≡ m → ◌≡◌ {A = DeviceId} (record { driver = d; pool = p; device = n }) (record { driver = e; pool = q; device = m })
same_device d e p q n m f g h = cc

pub same_from_device_eq : (a b : DeviceId) → device_eq a b ≡ true → a ≡ b
same_from_device_eq a b e =
    let rest = right_of (text_eq a.driver b.driver) (text_eq a.pool b.pool && text_eq a.device b.device) e in
    same_device a.driver b.driver a.pool b.pool a.device b.device
    (same_from_text_eq a.driver b.driver (left_of (text_eq a.driver b.driver) (text_eq a.pool b.pool && text_eq a.device b.device) e))
    (same_from_text_eq a.pool b.pool (left_of (text_eq a.pool b.pool) (text_eq a.device b.device) rest))
    (same_from_text_eq a.device b.device (right_of (text_eq a.pool b.pool) (text_eq a.device b.device) rest))

pub equal_devices : (a b : DeviceId) → a ≡ b → device_eq a b ≡ true
equal_devices a b e = sym (ap (device_eq a) e) ∙ device_eq-same a

pub key_eq-same : (a : Key) → key_eq a a ≡ true
key_eq-same a = both (text_eq a.namespace a.namespace) (text_eq a.name a.name) (text_eq-same a.namespace) (text_eq-same a.name)

same_key : (d e n m : List ℕ) → d ≡ e → n ≡ m → ◌≡◌ {A = Key} (record { namespace = d; name = n }) (record { namespace = e; name = m })
same_key d e n m f g = cc

pub same_from_key_eq : (a b : Key) → key_eq a b ≡ true → a ≡ b
same_from_key_eq a b e =
    same_key a.namespace b.namespace a.name b.name
    (same_from_text_eq a.namespace b.namespace (left_of (text_eq a.namespace b.namespace) (text_eq a.name b.name) e))
    (same_from_text_eq a.name b.name (right_of (text_eq a.namespace b.namespace) (text_eq a.name b.name) e))

pub beq-same : (a : Bool) → beq a a ≡ true
beq-same true = refl
beq-same false = refl

pub same_from_beq : (a b : Bool) → beq a b ≡ true → a ≡ b
same_from_beq true true e = refl
same_from_beq true false e = absurd (cc)
same_from_beq false true e = absurd (cc)
same_from_beq false false e = refl

-- ---- what may be missing

pub both_none : {X : Type 0} (o p : Option X) → or_else o p ≡ None → (o ≡ None) × (p ≡ None)
both_none None p e = (refl, e)
both_none (Some x) p e = absurd (cc)

pub none_from : {X : Type 0} (o p : Option X) → o ≡ None → p ≡ None → or_else o p ≡ None
none_from None p e f = f
none_from (Some x) p e f = absurd (cc)

pub no_image : {X Y : Type 0} (f : X → Y) (o : Option X) → option_map f o ≡ None → o ≡ None
no_image f None e = refl
no_image f (Some x) e = absurd (cc)

pub found_parts : {X : Type 0} (b : Bool) (y : X) (o : Option X) → cond b (Some y) o ≡ None → (b ≡ false) × (o ≡ None)
found_parts true y o e = absurd (cc)
found_parts false y o e = (refl, e)

pub cond_parts : {X : Type 0} (b : Bool) (o : Option X) (y : X) → cond b o (Some y) ≡ None → (b ≡ true) × (o ≡ None)
cond_parts true o y e = (refl, e)
cond_parts false o y e = absurd (cc)

pub some_is : {X : Type 0} (x y : X) → Some x ≡ Some y → x ≡ y
some_is x y e = cc

pub image_twice : {X Y Z : Type 0} (g : Y → Z) (f : X → Y) (o : Option X) → option_map g (option_map f o) ≡ option_map (λ x. g (f x)) o
image_twice g f None = refl
image_twice g f (Some x) = refl
