-- Results keep a constraint where each agrees with those before it.
use Rattle.std.proofs.Common.{◌≡◌, List, [], ◌∷◌, ◌++◌, Bool, true, false, not, ◌||◌, Option, None, Some, refl, sym, ap, subst, ◌∙◌}
use Rattle.std.proofs.lemmas.Bool.{and_parts, and_from}
use Rattle.std.proofs.Common.{append_assoc, append-nil}
use Rattle.api_claim.specs.declared.types.DeviceConstraint.{DeviceConstraint}
use Rattle.api_slice.specs.declared.types.Attribute.{Attribute}
use Rattle.api_slice.specs.declared.types.Attribute.TheVariants as attribute
use Rattle.request_rules.specs.Agreeing.{Pick, agrees, agrees_by, all_same, attribute_of, each_agrees, is_named, same_by}
use Rattle.constraints.specs.Keeping.{AllHave, KeepsConstraint}
use Rattle.constraints.proofs.SameValues.{same_from_by, same_value-same}
use Rattle.constraints.proofs.Taken.{have_more}

have_step : (b : Bool) (o : Option Attribute) (value : Attribute) → (not b || same_by o value) ≡ true → b ≡ true → o ≡ Some value
have_step true o value e g = same_from_by o value e
have_step false o value e g = absurd (cc)

have_from_all_same : (c : DeviceConstraint) (value : Attribute) (ps : List Pick) → all_same c value ps ≡ true → AllHave c (Some value) ps
have_from_all_same c value [] e = tt
have_from_all_same c value (p ∷ ps) e =
    let both = and_parts (not (is_named c p) || same_by (attribute_of p.device c.attribute) value) (all_same c value ps) e in
    (have_step (is_named c p) (attribute_of p.device c.attribute) value both.0, have_from_all_same c value ps both.1)

all_same_step : (b : Bool) (o : Option Attribute) (value : Attribute) → (b ≡ true → o ≡ Some value) → (not b || same_by o value) ≡ true
all_same_step true o value h = ap (λ (w : Option Attribute). same_by w value) (h refl) ∙ same_value-same value
all_same_step false o value h = refl

all_same_from_have : (c : DeviceConstraint) (value : Attribute) (ps : List Pick) → AllHave c (Some value) ps → all_same c value ps ≡ true
all_same_from_have c value [] h = refl
all_same_from_have c value (p ∷ ps) h =
    and_from (not (is_named c p) || same_by (attribute_of p.device c.attribute) value) (all_same c value ps)
    (all_same_step (is_named c p) (attribute_of p.device c.attribute) value h.0) (all_same_from_have c value ps h.1)

keep_by : (c : DeviceConstraint) (before : List Pick) (p : Pick) (o : Option Attribute) → attribute_of p.device c.attribute ≡ o → agrees_by c before o ≡ true → KeepsConstraint c (before ++ p ∷ [])
keep_by c before p None is e = absurd (cc)
keep_by c before p (Some value) is e = record { value = value; have = have_more c (Some value) before p (have_from_all_same c value before e) (λ g. is) }

keep_step : (c : DeviceConstraint) (before : List Pick) (p : Pick) (b : Bool) → is_named c p ≡ b → KeepsConstraint c before
    → (not b || agrees_by c before (attribute_of p.device c.attribute)) ≡ true → KeepsConstraint c (before ++ p ∷ [])
keep_step c before p true named kept e = keep_by c before p (attribute_of p.device c.attribute) refl e
keep_step c before p false named kept e = record { value = kept.value; have = have_more c (Some kept.value) before p kept.have (λ g. absurd (cc)) }

keep_more : (c : DeviceConstraint) (before : List Pick) (p : Pick) → KeepsConstraint c before → agrees c before p ≡ true → KeepsConstraint c (before ++ p ∷ [])
unfolding agrees
keep_more c before p kept e = keep_step c before p (is_named c p) refl kept e

keep_all : (c : DeviceConstraint) (before ps : List Pick) → KeepsConstraint c before → each_agrees c before ps ≡ true → KeepsConstraint c (before ++ ps)
keep_all c before [] kept e = subst (λ (l : List Pick). KeepsConstraint c l) (sym (append-nil before)) kept
keep_all c before (p ∷ ps) kept e =
    let both = and_parts (agrees c before p) (each_agrees c (before ++ p ∷ []) ps) e in
    subst (λ (l : List Pick). KeepsConstraint c l) (append_assoc before (p ∷ []) ps)
    (keep_all c (before ++ p ∷ []) ps (keep_more c before p kept both.0) both.1)

-- results that agree one after another keep the constraint
pub kept : (c : DeviceConstraint) (ps : List Pick) → each_agrees c [] ps ≡ true → KeepsConstraint c ps
kept c ps e = keep_all c [] ps (record { value = attribute.Bool false; have = tt }) e

agree_by : (c : DeviceConstraint) (before : List Pick) (o : Option Attribute) (value : Attribute) → o ≡ Some value → AllHave c (Some value) before → agrees_by c before o ≡ true
agree_by c before o value is h = ap (agrees_by c before) is ∙ all_same_from_have c value before h

agree_step : (c : DeviceConstraint) (before : List Pick) (p : Pick) (value : Attribute) (b : Bool) → (b ≡ true → attribute_of p.device c.attribute ≡ Some value) → AllHave c (Some value) before
    → (not b || agrees_by c before (attribute_of p.device c.attribute)) ≡ true
agree_step c before p value true h all = agree_by c before (attribute_of p.device c.attribute) value (h refl) all
agree_step c before p value false h all = refl

agree_all : (c : DeviceConstraint) (value : Attribute) (before ps : List Pick) → AllHave c (Some value) before → AllHave c (Some value) ps → each_agrees c before ps ≡ true
unfolding agrees
agree_all c value before [] h all = refl
agree_all c value before (p ∷ ps) h all =
    and_from (agrees c before p) (each_agrees c (before ++ p ∷ []) ps)
    (agree_step c before p value (is_named c p) all.0 h)
    (agree_all c value (before ++ p ∷ []) ps (have_more c (Some value) before p h all.0) all.1)

-- results that keep the constraint agree one after another
pub agreed : (c : DeviceConstraint) (ps : List Pick) → KeepsConstraint c ps → each_agrees c [] ps ≡ true
agreed c ps k = agree_all c k.value [] ps tt k.have
