-- What an agreement keeps, with one result more and with one less.
use Rattle.std.proofs.Common.{◌≡◌, ℕ, ◌+◌, ◌-◌, ◌==◌, List, [], ◌∷◌, ◌++◌, Bool, true, false, not, ◌&&◌, ◌||◌, if◌then◌else◌, Option, None, Some, refl, sym, ap, ap₂, subst, ◌∙◌, arith}
use Rattle.std.proofs.lemmas.Bool.Decides.{nat_tests}
use Rattle.api_claim.specs.declared.types.DeviceConstraint.{DeviceConstraint}
use Rattle.api_slice.specs.declared.types.Attribute.{Attribute}
use Rattle.request_rules.specs.Agreeing.{Pick, agrees, agrees_by, all_same, attribute_of, is_named, same_by}
use Rattle.constraints.specs.Keeping.{AgreementFields, AllHave, IsOf, named_count}
use Rattle.constraints.specs.Steps.{fits_by, fits_value, has_by, left_by, taken_by}
use Rattle.constraints.proofs.SameValues.{same_from_by}

taken_again : (s none : Bool) → (s && (none || s)) ≡ s
taken_again true true = refl
taken_again true false = refl
taken_again false none = refl

not_zero : (n : ℕ) → (1 + n == 0) ≡ false
not_zero n = grind (arith, nat_tests)

-- whether one result and the others have the value
same_step : (named s : Bool) (n : ℕ) (o first : Option Attribute) (value : Attribute) → (named ≡ true → o ≡ first) → s ≡ has_by n first value
    → has_by (if named then 1 + n else n) first value ≡ ((not named || same_by o value) && s)
same_step true s n o first value h e =
    ap (λ (z : Bool). z || same_by first value) (not_zero n)
    ∙ sym (ap (λ (t : Bool). same_by o value && t) e
    ∙ ap (λ (w : Option Attribute). same_by w value && has_by n first value) (h refl)
    ∙ taken_again (same_by first value) (n == 0))
same_step false s n o first value h e = sym e

pub has_by-all_same : (c : DeviceConstraint) (first : Option Attribute) (value : Attribute) (taken : List Pick) → AllHave c first taken
    → has_by (named_count c taken) first value ≡ all_same c value taken
has_by-all_same c first value [] h = refl
has_by-all_same c first value (p ∷ ps) h =
    same_step (is_named c p) (all_same c value ps) (named_count c ps) (attribute_of p.device c.attribute) first value h.0 (sym (has_by-all_same c first value ps h.1))

value_step : (c : DeviceConstraint) (first : Option Attribute) (taken : List Pick) (o : Option Attribute) → AllHave c first taken
    → fits_value (record { constraint = c; count = named_count c taken; first = first }) o ≡ agrees_by c taken o
value_step c first taken None h = refl
value_step c first taken (Some value) h = has_by-all_same c first value taken h

named_step : (named r s : Bool) → r ≡ s → (if not named then true else r) ≡ (not named || s)
named_step true r s e = e
named_step false r s e = refl

fits_of : (c : DeviceConstraint) (first : Option Attribute) (taken : List Pick) (p : Pick) → AllHave c first taken
    → fits_by (record { constraint = c; count = named_count c taken; first = first }) p ≡ agrees c taken p
unfolding agrees
fits_of c first taken p h =
    named_step (is_named c p) (fits_value (record { constraint = c; count = named_count c taken; first = first }) (attribute_of p.device c.attribute)) (agrees_by c taken (attribute_of p.device c.attribute))
    (value_step c first taken (attribute_of p.device c.attribute) h)

-- the fields of an agreement
agreement_is : (c : DeviceConstraint) (n : ℕ) (a : AgreementFields) → a.constraint ≡ c → a.count ≡ n → record { constraint = c; count = n; first = a.first } ≡ a
agreement_is c n a e f = ap₂ (λ (k : DeviceConstraint) (m : ℕ). record { constraint = k; count = m; first = a.first }) (sym e) (sym f)

-- an agreement evaluates to whether a result agrees with those taken
pub fits_taken : (c : DeviceConstraint) (taken : List Pick) (a : AgreementFields) (p : Pick) → IsOf c taken a → fits_by a p ≡ agrees c taken p
fits_taken c taken a p of =
    subst (λ (w : AgreementFields). fits_by w p ≡ agrees c taken p) (agreement_is c (named_count c taken) a of.constraint of.count)
    (fits_of c a.first taken p of.first)

-- ---- one more

count_step : (b named : Bool) (n m : ℕ) → m ≡ (if named then 1 + n else n) → (if b then 1 + m else m) ≡ (if named then 1 + (if b then 1 + n else n) else (if b then 1 + n else n))
count_step true true n m e = ap (λ (k : ℕ). 1 + k) e
count_step true false n m e = ap (λ (k : ℕ). 1 + k) e
count_step false true n m e = e
count_step false false n m e = e

count_more : (c : DeviceConstraint) (taken : List Pick) (p : Pick) → named_count c (taken ++ p ∷ []) ≡ (if is_named c p then 1 + named_count c taken else named_count c taken)
count_more c [] p = refl
count_more c (q ∷ qs) p = count_step (is_named c q) (is_named c p) (named_count c qs) (named_count c (qs ++ p ∷ [])) (count_more c qs p)

pub have_more : (c : DeviceConstraint) (o : Option Attribute) (taken : List Pick) (p : Pick) → AllHave c o taken → (is_named c p ≡ true → attribute_of p.device c.attribute ≡ o) → AllHave c o (taken ++ p ∷ [])
have_more c o [] p h e = (e, tt)
have_more c o (q ∷ qs) p h e = (h.0, have_more c o qs p h.1 e)

have_prefix : (c : DeviceConstraint) (o : Option Attribute) (taken : List Pick) (p : Pick) → AllHave c o (taken ++ p ∷ []) → AllHave c o taken
have_prefix c o [] p h = tt
have_prefix c o (q ∷ qs) p h = (h.0, have_prefix c o qs p h.1)

none_step : (b : Bool) (n : ℕ) {X R : Type 0} → (if b then 1 + n else n) ≡ 0 → (n ≡ 0 → R) → (b ≡ true → X) × R
none_step true n e f = absurd (omega (arith, e))
none_step false n e f = (λ g. absurd (cc), f e)

-- if none is named, they have any attribute
none_named : (c : DeviceConstraint) (o : Option Attribute) (taken : List Pick) → named_count c taken ≡ 0 → AllHave c o taken
none_named c o [] e = tt
none_named c o (q ∷ qs) e = none_step (is_named c q) (named_count c qs) e (none_named c o qs)

pick_first : (c : DeviceConstraint) (taken : List Pick) (o first : Option Attribute) (none : Bool) → (none ≡ true → AllHave c o taken) → AllHave c first taken → AllHave c (if none then o else first) taken
pick_first c taken o first true f h = f refl
pick_first c taken o first false f h = h

is_zero : (n : ℕ) → (n == 0) ≡ true → n ≡ 0
is_zero n e = grind (arith, nat_tests, e)

has_first : (none : Bool) (first : Option Attribute) (value : Attribute) → (none || same_by first value) ≡ true → Some value ≡ (if none then Some value else first)
has_first true first value e = refl
has_first false first value e = sym (same_from_by first value e)

-- what agrees has what the first of those taken has
agreed_first : (c : DeviceConstraint) (taken : List Pick) (o first : Option Attribute) → AllHave c first taken → agrees_by c taken o ≡ true → o ≡ (if named_count c taken == 0 then o else first)
agreed_first c taken None first h e = absurd (cc)
agreed_first c taken (Some value) first h e = has_first (named_count c taken == 0) first value (has_by-all_same c first value taken h ∙ e)

take_step : (c : DeviceConstraint) (first : Option Attribute) (taken : List Pick) (p : Pick) (b : Bool) → is_named c p ≡ b → AllHave c first taken
    → (not b || agrees_by c taken (attribute_of p.device c.attribute)) ≡ true
    → IsOf c (taken ++ p ∷ []) (if b then record { constraint = c; count = named_count c taken + 1; first = if named_count c taken == 0 then attribute_of p.device c.attribute else first } else record { constraint = c; count = named_count c taken; first = first })
take_step c first taken p true named h e =
    let o = attribute_of p.device c.attribute in
    let n = named_count c taken in
    let count = count_more c taken p ∙ ap (λ (t : Bool). if t then 1 + n else n) named in
    record {
      constraint = refl;
      count = omega (arith, count);
      first = have_more c (if n == 0 then o else first) taken p (pick_first c taken o first (n == 0) (λ g. none_named c o taken (is_zero n g)) h) (λ g. agreed_first c taken o first h e);
    }
take_step c first taken p false named h e =
    let n = named_count c taken in
    let count = count_more c taken p ∙ ap (λ (t : Bool). if t then 1 + n else n) named in
    record { constraint = refl; count = sym count; first = have_more c first taken p h (λ g. absurd (cc)) }

-- with one result more that agrees
pub take_more : (c : DeviceConstraint) (taken : List Pick) (a : AgreementFields) (p : Pick) → IsOf c taken a → agrees c taken p ≡ true → IsOf c (taken ++ p ∷ []) (taken_by a p)
unfolding agrees
take_more c taken a p of e =
    subst (λ (w : AgreementFields). IsOf c (taken ++ p ∷ []) (taken_by w p)) (agreement_is c (named_count c taken) a of.constraint of.count)
    (take_step c a.first taken p (is_named c p) refl of.first e)

-- ---- one less

leave_step : (c : DeviceConstraint) (first : Option Attribute) (taken : List Pick) (p : Pick) (n : ℕ) (b : Bool) → is_named c p ≡ b → n ≡ named_count c (taken ++ p ∷ []) → AllHave c first (taken ++ p ∷ [])
    → IsOf c taken (if b then record { constraint = c; count = n - 1; first = first } else record { constraint = c; count = n; first = first })
leave_step c first taken p n true named is h =
    let count = is ∙ count_more c taken p ∙ ap (λ (t : Bool). if t then 1 + named_count c taken else named_count c taken) named in
    record { constraint = refl; count = omega (arith, count); first = have_prefix c first taken p h }
leave_step c first taken p n false named is h =
    let count = is ∙ count_more c taken p ∙ ap (λ (t : Bool). if t then 1 + named_count c taken else named_count c taken) named in
    record { constraint = refl; count = count; first = have_prefix c first taken p h }

-- with the last result taken back
pub leave_less : (c : DeviceConstraint) (taken : List Pick) (a : AgreementFields) (p : Pick) → IsOf c (taken ++ p ∷ []) a → IsOf c taken (left_by a p)
leave_less c taken a p of =
    subst (λ (w : AgreementFields). IsOf c taken (left_by w p)) (agreement_is c a.count a of.constraint refl)
    (leave_step c a.first taken p a.count (is_named c p) refl of.count of.first)
