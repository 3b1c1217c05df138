-- One result more, as the counters and the agreements of constraints see it.
use Rattle.std.proofs.Common.{suc, ◌+◌, ◌<◌, ◌≡◌, List, [], ◌∷◌, ◌++◌, Bool, true, false, not, ◌&&◌, ◌||◌, cond, eqb, Option, None, Some, length, refl, sym, ap, ◌∙◌, arith}
use Rattle.std.specs.List.{slice_get, list_all}
use Rattle.std.specs.Option.{is_some}
use Rattle.api_slice.specs.declared.types.Attribute.{Attribute}
use Rattle.pool_view.specs.Pools.{Offered}
use Rattle.request_rules.specs.Draws.{CounterId, Draw, draws_of, drawn_from, is_covered}
use Rattle.request_rules.specs.Agreeing.{all_same, attribute_of, names, same_by}
use Rattle.request_rules.specs.Agreeing as agreeing
use Rattle.request_rules.specs.Lists.{Each}
use Rattle.request_rules.specs.Names.{result_name}
use Rattle.request_rules.specs.Input.{SearchInput}
use Rattle.request_rules.specs.Asked.{Rule}
use Rattle.request_rules.specs.Rules.{Pick, agrees, amount, covers, device_draws, draws, draws_by, is_for, same_values, total, value_of, attribute_by, within}
use Rattle.request_rules.specs.Joining.{seen_all, seen_by, seen_some}
use Rattle.request_rules.proofs.Tests.{same_number}
use Rattle.request_rules.proofs.Places.{there}
use Rattle.request_rules.proofs.Covered.{total-push}

-- ---- counters

draws_are : (w : SearchInput) (p : Pick) (o : Offered) → slice_get w.devices p.position ≡ Some o → p.label.admin ≡ false → draws w p ≡ draws_of o
draws_are w p o there plain = ap (λ (t : Bool). cond t [] (device_draws w p)) plain ∙ ap draws_by there

no_draws : (w : SearchInput) (p : Pick) → p.label.admin ≡ true → draws w p ≡ []
no_draws w p admin = ap (λ (t : Bool). cond t [] (device_draws w p)) admin

pub covers_device : (w : SearchInput) (before : List Pick) (p : Pick) (o : Offered) → slice_get w.devices p.position ≡ Some o → p.label.admin ≡ false
    → covers w before p ≡ is_covered w.value (λ k. total w k before) o
unfolding covers is_covered drawn_from
covers_device w before p o there plain =
    ap (λ (ds : List Draw). list_all (λ d. within w d.counter (total w d.counter before + amount d.counter ds)) ds) (draws_are w p o there plain)

pub covers_admin : (w : SearchInput) (before : List Pick) (p : Pick) → p.label.admin ≡ true → covers w before p ≡ true
unfolding covers
covers_admin w before p admin = ap (λ (ds : List Draw). list_all (λ d. within w d.counter (total w d.counter before + amount d.counter ds)) ds) (no_draws w p admin)

pub total_none : (w : SearchInput) (k : CounterId) → total w k [] ≡ w.drawn k
unfolding total
total_none w k = omega arith

pub total_device : (w : SearchInput) (k : CounterId) (before : List Pick) (p : Pick) (o : Offered) → slice_get w.devices p.position ≡ Some o → p.label.admin ≡ false
    → total w k (before ++ p ∷ []) ≡ total w k before + drawn_from k o
unfolding drawn_from
total_device w k before p o there plain = total-push w k before p ∙ ap (λ (ds : List Draw). total w k before + amount k ds) (draws_are w p o there plain)

pub total_admin : (w : SearchInput) (k : CounterId) (before : List Pick) (p : Pick) → p.label.admin ≡ true → total w k (before ++ p ∷ []) ≡ total w k before
total_admin w k before p admin =
    let e = total-push w k before p ∙ ap (λ (ds : List Draw). total w k before + amount k ds) (no_draws w p admin) in
    e ∙ omega arith

-- ---- constraints

behind_by : (w : SearchInput) (r : Rule) (v : Attribute) (q : Pick) (qs : List Pick) (b : Bool) (o : Offered) → eqb r.claim q.label.claim ≡ b → slice_get w.devices q.position ≡ Some o
    → (not (b && names r.constraint.requests (result_name q.label)) || same_values (value_of w r q) (Some v))
    && all_same r.constraint v (seen_all w r qs) ≡ all_same r.constraint v (cond b (seen_some q.label (slice_get w.devices q.position)) [] ++ seen_all w r qs)
unfolding agreeing.is_named
behind_by w r v q qs true o e there =
    let c = r.constraint in
    ap (λ (z : Option Offered). (not (names c.requests (result_name q.label)) || same_by (attribute_by z c.attribute) v) && all_same c v (seen_all w r qs)) there
    ∙ ap (λ (z : Option Offered). all_same c v (seen_some q.label z ++ seen_all w r qs)) (sym there)
behind_by w r v q qs false o e there = refl

behind : (w : SearchInput) (r : Rule) (v : Attribute) (before : List Pick) → Each (λ q. q.position < length w.devices) before
    → list_all (λ q. not (is_for r q.label) || same_values (value_of w r q) (Some v)) before ≡ all_same r.constraint v (seen_all w r before)
unfolding is_for
behind w r v [] h = refl
behind w r v (q ∷ qs) h =
    let t = there w.devices q.position (h 0 q refl) in
    ap (λ (z : Bool). (not (is_for r q.label) || same_values (value_of w r q) (Some v)) && z) (behind w r v qs (λ i x e. h (suc i) x e))
    ∙ behind_by w r v q qs (eqb r.claim q.label.claim) t.0 refl t.1

agreed_by : (w : SearchInput) (r : Rule) (before : List Pick) (n : Bool) (o : Option Attribute) → Each (λ q. q.position < length w.devices) before
    → (not n || (is_some o && list_all (λ q. not (is_for r q.label) || same_values (value_of w r q) o) before)) ≡ (not n || agreeing.agrees_by r.constraint (seen_all w r before) o)
agreed_by w r before n None h = refl
agreed_by w r before n (Some v) h = ap (λ (z : Bool). not n || z) (behind w r v before h)

pub agrees_seen : (w : SearchInput) (r : Rule) (before : List Pick) (p : Pick) (o : Offered) → Each (λ q. q.position < length w.devices) before → slice_get w.devices p.position ≡ Some o → r.claim ≡ p.label.claim
    → agrees w r before p ≡ agreeing.agrees r.constraint (seen_all w r before) (seen_by p.label o)
unfolding agrees agreeing.agrees is_for agreeing.is_named
agrees_seen w r before p o h there same =
    let c = r.constraint in
    ap (λ (t : Bool). not (t && names c.requests (result_name p.label)) || (is_some (value_of w r p) && list_all (λ q. not (is_for r q.label) || same_values (value_of w r q) (value_of w r p)) before)) (same_number r.claim p.label.claim same)
    ∙ ap (λ (z : Option Offered). not (names c.requests (result_name p.label)) || (is_some (attribute_by z c.attribute) && list_all (λ q. not (is_for r q.label) || same_values (value_of w r q) (attribute_by z c.attribute)) before)) there
    ∙ agreed_by w r before (names c.requests (result_name p.label)) (attribute_of o c.attribute) h

pub agrees_others : (w : SearchInput) (r : Rule) (before : List Pick) (p : Pick) → eqb r.claim p.label.claim ≡ false → agrees w r before p ≡ true
unfolding agrees is_for
agrees_others w r before p e = ap (λ (t : Bool). not (t && names r.constraint.requests (result_name p.label)) || (is_some (value_of w r p) && list_all (λ q. not (is_for r q.label) || same_values (value_of w r q) (value_of w r p)) before)) e
