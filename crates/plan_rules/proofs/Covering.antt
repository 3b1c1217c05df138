-- Counters that have enough, and constraints that are kept.
use Rattle.std.proofs.Common.{ℕ, zero, suc, ◌+◌, ◌<◌, ◌≡◌, List, [], ◌∷◌, ◌++◌, Bool, true, false, cond, eqb, Option, None, Some, find, length, map, refl, sym, ap, ◌∙◌, subst}
use Rattle.std.specs.List.{slice_get, Contains}
use Rattle.std.specs.Option.{option_map, IsSome}
use Rattle.object_fields.specs.declared.key.Key.{Key}
use Rattle.api_claim.specs.declared.types.DeviceConstraint.{DeviceConstraint}
use Rattle.api_claim.specs.declared.types.ResourceClaim.{ResourceClaim}
use Rattle.api_slice.specs.declared.types.Attribute.{Attribute}
use Rattle.pool_view.specs.Pools.{Offered}
use Rattle.request_rules.specs.Agreeing as agreeing
use Rattle.constraints.specs.Keeping.{AllHave, KeepsConstraint}
use Rattle.request_rules.specs.Draws.{CounterId, Draw, is_within}
use Rattle.cluster.specs.declared.failure.Failure.{Failure}
use Rattle.cluster.specs.declared.failure.Failure.TheVariants as failure
use Rattle.request_rules.specs.Allocation.{IsCovered, IsKept}
use Rattle.request_rules.specs.Asked.{Rule, rules_from, rules_of}
use Rattle.request_rules.specs.Input.{SearchInput}
use Rattle.request_rules.specs.Joining.{seen_all, seen_for, seen_some}
use Rattle.request_rules.specs.Lists.{Each}
use Rattle.request_rules.specs.Names.{result_name}
use Rattle.request_rules.specs.Rules.{Pick, attribute_by, device_draws, is_for, total, value_of, within}
use Rattle.plan_rules.specs.Standing.{agree, broken_by, constraint_broken, counter_short, disagreed_from, is_short, short_for, short_on, shortfall}
use Rattle.plan_rules.proofs.Elements.{each_join, firsts_none, found_none, get-from_contains, there}
use Rattle.plan_rules.proofs.Tests.{at_most, both_none, cond_parts, is_true, left_of, no_image, right_of}

-- ---- counters

enough_by : (w : SearchInput) (ps : List Pick) (k : CounterId) (o : Option ℕ) → w.value k ≡ o → is_within o (total w k ps) ≡ true → IsCovered w ps k
enough_by w ps k None e h = absurd (cc)
enough_by w ps k (Some v) e h = record { value = v; there = e; enough = at_most (total w k ps) v h }

enough_for : (w : SearchInput) (ps : List Pick) (p : Pick) → short_for w ps p ≡ None → p.label.admin ≡ false → (d : Draw) → Contains (device_draws w p) d → IsCovered w ps d.counter
enough_for w ps p e plain d h =
    let o : Option Failure = option_map failure.Counter (short_on w ps p) in
    let f : o ≡ None = sym (ap (λ (t : Bool). cond t None o) plain) ∙ e in
    let none : short_on w ps p ≡ None = no_image failure.Counter (short_on w ps p) f in
    let g = found_none (is_short w ps) (device_draws w p) (no_image (λ (x : Draw). shortfall w ps x.counter) (find (is_short w ps) (device_draws w p)) none) h.0 d (get-from_contains (device_draws w p) d h) in
    enough_by w ps d.counter (w.value d.counter) refl (is_true (within w d.counter (total w d.counter ps)) g)

-- no counter is short
pub covered_of : (w : SearchInput) (ps : List Pick) → counter_short w ps ≡ None → Each (λ p. p.label.admin ≡ false → (d : Draw) → Contains (device_draws w p) d → IsCovered w ps d.counter) ps
covered_of w ps e i p g = enough_for w ps p (firsts_none (short_for w ps) ps e i p g)

-- ---- constraints

-- each constraint of each claim
abbrev Agree : SearchInput → List Pick → Rule → Type 0
Agree w ps r = agreeing.each_agrees r.constraint [] (seen_all w r ps) ≡ true

agreed_in : (w : SearchInput) (ps : List Pick) (i n : ℕ) (key : Key) (cs : List DeviceConstraint) → broken_by (agree w ps i) key n cs ≡ None
    → Each (Agree w ps) (map (λ (c : DeviceConstraint). record { claim = i; constraint = c }) cs)
agreed_in w ps i n key [] e j r g = absurd (cc)
agreed_in w ps i n key (c ∷ cs) e zero r g =
    let s : ◌≡◌ {A = Rule} (record { claim = i; constraint = c }) r = cc in
    subst (Agree w ps) s (cond_parts (agree w ps i c) (broken_by (agree w ps i) key (n + 1) cs) (failure.Constraint key n) e).0
agreed_in w ps i n key (c ∷ cs) e (suc j) r g =
    agreed_in w ps i (n + 1) key cs (cond_parts (agree w ps i c) (broken_by (agree w ps i) key (n + 1) cs) (failure.Constraint key n) e).1 j r g

agreed_all : (w : SearchInput) (ps : List Pick) (i : ℕ) (cs : List ResourceClaim) → disagreed_from w ps i cs ≡ None → Each (Agree w ps) (rules_from i cs)
agreed_all w ps i [] e j r g = absurd (cc)
agreed_all w ps i (c ∷ cs) e j r g =
    let p = both_none (broken_by (agree w ps i) c.key 0 c.constraints) (disagreed_from w ps (i + 1) cs) e in
    each_join (Agree w ps) (map (λ (c : DeviceConstraint). record { claim = i; constraint = c }) c.constraints) (rules_from (i + 1) cs)
    (agreed_in w ps i 0 c.key c.constraints p.0) (agreed_all w ps (i + 1) cs p.1) j r g

have_left : (c : DeviceConstraint) (v : Option Attribute) (xs ys : List agreeing.Pick) → AllHave c v (xs ++ ys) → AllHave c v xs
have_left c v [] ys h = tt
have_left c v (x ∷ xs) ys h = (h.0, have_left c v xs ys h.1)

have_right : (c : DeviceConstraint) (v : Option Attribute) (xs ys : List agreeing.Pick) → AllHave c v (xs ++ ys) → AllHave c v ys
have_right c v [] ys h = h
have_right c v (x ∷ xs) ys h = have_right c v xs ys h.1

-- what a result has, if what is seen of it has the value
seen_has : (w : SearchInput) (r : Rule) (p : Pick) (o : Offered) (v : Attribute) → slice_get w.devices p.position ≡ Some o → is_for r p.label ≡ true → AllHave r.constraint (Some v) (seen_for w r p) → value_of w r p ≡ Some v
unfolding is_for agreeing.is_named
seen_has w r p o v at e h =
    let same = left_of (eqb r.claim p.label.claim) (agreeing.names r.constraint.requests (result_name p.label)) e in
    let named = right_of (eqb r.claim p.label.claim) (agreeing.names r.constraint.requests (result_name p.label)) e in
    let f : AllHave r.constraint (Some v) (seen_some p.label (Some o)) =
    subst (λ (z : Option Offered). AllHave r.constraint (Some v) (seen_some p.label z)) at (subst (λ (t : Bool). AllHave r.constraint (Some v) (cond t (seen_some p.label (slice_get w.devices p.position)) [])) same h) in
    ap (λ (z : Option Offered). attribute_by z r.constraint.attribute) at ∙ f.0 named

each_has : (w : SearchInput) (r : Rule) (ps : List Pick) (v : Attribute) → Each (λ p. p.position < length w.devices) ps → AllHave r.constraint (Some v) (seen_all w r ps)
    → Each (λ p. is_for r p.label ≡ true → value_of w r p ≡ Some v) ps
each_has w r [] v below h i p g = absurd (cc)
each_has w r (q ∷ ps) v below h zero p g =
    let s : q ≡ p = cc in
    let t = there w.devices q.position (below 0 q refl) in
    subst (λ (z : Pick). is_for r z.label ≡ true → value_of w r z ≡ Some v) s (λ e. seen_has w r q t.0 v t.1 e (have_left r.constraint (Some v) (seen_for w r q) (seen_all w r ps) h))
each_has w r (q ∷ ps) v below h (suc i) p g = each_has w r ps v (λ j x k. below (suc j) x k) (have_right r.constraint (Some v) (seen_for w r q) (seen_all w r ps) h) i p g

some_value : {X : Type 0} (o : Option X) (v : X) → o ≡ Some v → IsSome o
some_value None v e = absurd (cc)
some_value (Some x) v e = refl

kept_of : (w : SearchInput) (r : Rule) (ps : List Pick) → Each (λ p. p.position < length w.devices) ps → KeepsConstraint r.constraint (seen_all w r ps) → IsKept w ps r
kept_of w r ps below k =
    let has = each_has w r ps k.value below k.have in
    record {
      present = λ i p g e. some_value (value_of w r p) k.value (has i p g e);
      same = λ i j p q lt g h e f. has i p g e ∙ sym (has j q h f);
    }

-- each constraint is kept, if those that agree are kept
pub constraints_kept : (w : SearchInput) (ps : List Pick) → ((c : DeviceConstraint) (xs : List agreeing.Pick) → agreeing.each_agrees c [] xs ≡ true → KeepsConstraint c xs)
    → Each (λ p. p.position < length w.devices) ps → constraint_broken w ps ≡ None → (r : Rule) → Contains (rules_of w) r → IsKept w ps r
unfolding rules_of
constraints_kept w ps law below e r h =
    kept_of w r ps below (law r.constraint (seen_all w r ps) (agreed_all w ps 0 w.claims e h.0 r (get-from_contains (rules_from 0 w.claims) r h)))
