-- Values are the same if the test is true, and each is the same as itself.
use Rattle.std.proofs.Common.{◌≡◌, Bool, true, false, Option, None, Some, refl, ap}
use Rattle.std.specs.Bool.{beq}
use Rattle.std.proofs.lemmas.Bool.Decides.{Decides-int_eq}
use Rattle.std.proofs.lemmas.Slice.Eq.{bytes_eq-Decides}
use Rattle.api_slice.specs.declared.types.Attribute.{Attribute}
use Rattle.api_slice.specs.declared.types.Attribute.TheVariants as attribute
use Rattle.request_rules.specs.Agreeing.{same_by, same_value}

same_from_beq : (b c : Bool) → beq b c ≡ true → b ≡ c
same_from_beq true true e = refl
same_from_beq true false e = absurd (cc)
same_from_beq false true e = absurd (cc)
same_from_beq false false e = refl

pub same_from_value : (a b : Attribute) → same_value a b ≡ true → a ≡ b
same_from_value (attribute.Int n) (attribute.Int m) e = ap attribute.Int ((Decides-int_eq n m).0 e)
same_from_value (attribute.Int n) (attribute.Bool b) e = absurd (cc)
same_from_value (attribute.Int n) (attribute.Text t) e = absurd (cc)
same_from_value (attribute.Int n) (attribute.Version t) e = absurd (cc)
same_from_value (attribute.Bool b) (attribute.Int m) e = absurd (cc)
same_from_value (attribute.Bool b) (attribute.Bool c) e = ap attribute.Bool (same_from_beq b c e)
same_from_value (attribute.Bool b) (attribute.Text t) e = absurd (cc)
same_from_value (attribute.Bool b) (attribute.Version t) e = absurd (cc)
same_from_value (attribute.Text s) (attribute.Int m) e = absurd (cc)
same_from_value (attribute.Text s) (attribute.Bool b) e = absurd (cc)
same_from_value (attribute.Text s) (attribute.Text t) e = ap attribute.Text ((bytes_eq-Decides s t).0 e)
same_from_value (attribute.Text s) (attribute.Version t) e = absurd (cc)
same_from_value (attribute.Version s) (attribute.Int m) e = absurd (cc)
same_from_value (attribute.Version s) (attribute.Bool b) e = absurd (cc)
same_from_value (attribute.Version s) (attribute.Text t) e = absurd (cc)
same_from_value (attribute.Version s) (attribute.Version t) e = ap attribute.Version ((bytes_eq-Decides s t).0 e)

beq-same : (b : Bool) → beq b b ≡ true
beq-same true = refl
beq-same false = refl

pub same_value-same : (a : Attribute) → same_value a a ≡ true
same_value-same (attribute.Int n) = (Decides-int_eq n n).1 refl
same_value-same (attribute.Bool b) = beq-same b
same_value-same (attribute.Text t) = (bytes_eq-Decides t t).1 refl
same_value-same (attribute.Version t) = (bytes_eq-Decides t t).1 refl

pub same_from_by : (o : Option Attribute) (b : Attribute) → same_by o b ≡ true → o ≡ Some b
same_from_by None b e = absurd (cc)
same_from_by (Some a) b e = ap Some (same_from_value a b e)
