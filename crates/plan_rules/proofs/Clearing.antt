-- Results that are as an allocation requires have no failure, kind by kind.
use Rattle.std.proofs.Common.{ℕ, zero, suc, ◌+◌, ◌<◌, ◌≡◌, ◌≢◌, List, [], ◌∷◌, ◌++◌, Bool, true, false, not, ◌&&◌, cond, eqb, leb, ltb, Option, None, Some, find, length, map, refl, sym, ap, ◌∙◌, subst, arith}
use Rattle.std.specs.List.{slice_get, Contains}
use Rattle.std.specs.Option.{is_none, option_map, IsSome}
use Rattle.std.proofs.lemmas.Bool.Decides.{nat_tests}
use Rattle.object_fields.specs.declared.key.DeviceId.{DeviceId}
use Rattle.object_fields.specs.declared.key.Key.{Key}
use Rattle.api_claim.specs.declared.types.DeviceConstraint.{DeviceConstraint}
use Rattle.api_claim.specs.declared.types.ResourceClaim.{ResourceClaim}
use Rattle.api_slice.specs.declared.types.Attribute.{Attribute}
use Rattle.api_slice.specs.declared.types.Attribute.TheVariants as attribute
use Rattle.request_rules.specs.Agreeing as agreeing
use Rattle.constraints.specs.Keeping.{AllHave, KeepsConstraint}
use Rattle.request_rules.specs.Draws.{CounterId, Draw, is_within}
use Rattle.pool_view.specs.declared.matching.Match.{Match}
use Rattle.pool_view.specs.declared.matching.Match.TheVariants.{Yes, No, Fault}
use Rattle.pool_view.specs.declared.verdict.Cause.{Cause}
use Rattle.pool_view.specs.Names.{device_eq, key_eq}
use Rattle.pool_view.specs.Pools.{Offered}
use Rattle.pool_view.specs.Views.{position_of}
use Rattle.cluster.specs.declared.failure.Failure.TheVariants as failure
use Rattle.cluster.specs.declared.plan.DeviceResult.{DeviceResult}
use Rattle.cluster.specs.declared.plan.Grant.{Grant}
use Rattle.request_rules.specs.Allocation.{IsCovered, IsKept}
use Rattle.request_rules.specs.Asked.{Asked, Rule, asked, rules_from, rules_of}
use Rattle.request_rules.specs.Faults.{FaultPlace, GivesNone, fault_by, fault_for, fault_of, fault_on}
use Rattle.request_rules.specs.Input.{SearchInput}
use Rattle.request_rules.specs.Joining.{seen_all, seen_for, seen_some}
use Rattle.request_rules.specs.Lists.{Each, EachTwo, or_else}
use Rattle.request_rules.specs.Names.{result_name}
use Rattle.request_rules.specs.Problem.{most_results}
use Rattle.request_rules.specs.Rules.{Pick, attribute_by, device_draws, is_for, total, value_of, within}
use Rattle.request_rules.specs.Ways.{wishes_in}
use Rattle.plan_rules.specs.Chosen.{Due, asked_in, place_by, place_of}
use Rattle.plan_rules.specs.Shaped.{are_parts, differ, is_shaped, picks_each, shape_from}
use Rattle.plan_rules.specs.Standing.{HeldPairs, agree, broken_by, constraint_broken, counter_short, disagreed_from, held_behind, held_by, held_from, holder_of, is_off, is_short, selector_fault, short_for, short_on, shortfall, taker_of, takes}
use Rattle.plan_rules.proofs.Apart.{Excludes}
use Rattle.plan_rules.proofs.Cuts.{AllShaped, Shaped}
use Rattle.plan_rules.proofs.Elements.{Contains-from_get, each_join, each_left, each_right, firsts_are_none, found_at, found_none, none_found}
use Rattle.plan_rules.proofs.Tests.{both, false_from, none_from, same_from_device_eq, some_is, test_at_most, truth_isnt}

-- ---- shape

shape_true : (w : SearchInput) (i : ℕ) (c : ResourceClaim) (g : Grant) → Shaped w i c g → (key_eq g.claim c.key && is_shaped w i c g.results) ≡ true
unfolding is_shaped
shape_true w i c g s =
    let one = picks_each g.results (wishes_in i c.key c.requests) in
    let two = are_parts w (asked_in i c g.results) g.results in
    let three = differ g.results in
    let four = leb (length g.results) most_results in
    both (key_eq g.claim c.key) (one && (two && (three && four))) s.key
    (both one (two && (three && four)) s.picks (both two (three && four) s.parts (both three four s.apart s.few)))

pub none_misshapen : (w : SearchInput) (i : ℕ) (cs : List ResourceClaim) (gs : List Grant) → AllShaped w i cs gs → shape_from w i cs gs ≡ None
none_misshapen w i [] [] s = refl
none_misshapen w i [] (g ∷ gs) s = absurd s
none_misshapen w i (c ∷ cs) [] s = absurd s
none_misshapen w i (c ∷ cs) (g ∷ gs) s =
    ap (λ (b : Bool). cond b (shape_from w (i + 1) cs gs) (Some (failure.Shape c.key))) (shape_true w i c g s.0) ∙ none_misshapen w (i + 1) cs gs s.1

-- ---- devices

on_by : (w : SearchInput) (o : Option ℕ) → place_by w o < length w.devices → is_none o ≡ false
on_by w None h = absurd (omega (arith, h))
on_by w (Some x) h = refl

pub is_on : (w : SearchInput) (r : DeviceResult) → place_of w r < length w.devices → is_off w.devices r ≡ false
is_on w r h = on_by w (position_of r.device w.devices) h

-- ---- evaluation errors

no_fault_by : (a : Asked) (o : Offered) (m : Match) → ((n : ℕ) (why : Cause) → m ≢ Fault n why) → fault_by a o m ≡ None
no_fault_by a o Yes h = refl
no_fault_by a o No h = refl
no_fault_by a o (Fault n why) h = absurd (h n why refl)

no_fault_for : (w : SearchInput) (a : Asked) → GivesNone w a w.devices → fault_for w a ≡ None
no_fault_for w a g = firsts_are_none (fault_on w a) w.devices (λ i o e. no_fault_by a o (w.matched a.ask o) (λ n why. g.none o n why (Contains-from_get w.devices i o e)))

no_image_of : {X Y : Type 0} (f : X → Y) (o : Option X) → o ≡ None → option_map f o ≡ None
no_image_of f o e = ap (option_map f) e

pub none_faults : (w : SearchInput) (c : List ℕ) → Each (λ a. GivesNone w a w.devices) (asked w c) → selector_fault w c ≡ None
unfolding fault_of
none_faults w c h = no_image_of (λ (f : FaultPlace). failure.SelectorFault f.device) (fault_of w c) (firsts_are_none (fault_for w) (asked w c) (λ i a e. no_fault_for w a (h i a e)))

-- ---- holders

pair_there : (pairs : HeldPairs) (id : DeviceId) (k : Key) → (p : DeviceId × Key) (b : Bool) → device_eq p.0 id ≡ b → cond b (Some p.1) (holder_of pairs id) ≡ Some k → (holder_of pairs id ≡ Some k → (i : ℕ) × (slice_get pairs i ≡ Some (id, k)))
    → (i : ℕ) × (slice_get (p ∷ pairs) i ≡ Some (id, k))
pair_there pairs id k (d, l) true e f rest =
    let same : d ≡ id = same_from_device_eq d id e in
    let key : l ≡ k = some_is l k f in
    (0, ap (λ (z : DeviceId). Some (z, l)) same ∙ ap (λ (z : Key). Some (id, z)) key)
pair_there pairs id k p false e f rest = let r = rest f in (suc r.0, r.1)

pub holder_there : (pairs : HeldPairs) (id : DeviceId) (k : Key) → holder_of pairs id ≡ Some k → (i : ℕ) × (slice_get pairs i ≡ Some (id, k))
holder_there [] id k e = absurd (cc)
holder_there (p ∷ pairs) id k e = pair_there pairs id k p (device_eq p.0 id) refl e (holder_there pairs id k)

holder_by : (pairs : HeldPairs) (id : DeviceId) (o : Option Key) → holder_of pairs id ≡ o → ((holder : Key) → Contains pairs (id, holder) → ⊥) → o ≡ None
holder_by pairs id None e h = refl
holder_by pairs id (Some k) e h = let r = holder_there pairs id k e in absurd (h k (Contains-from_get pairs r.0 (id, k) r.1))

pub no_holder : (pairs : HeldPairs) (id : DeviceId) → ((holder : Key) → Contains pairs (id, holder) → ⊥) → holder_of pairs id ≡ None
no_holder pairs id h = holder_by pairs id (holder_of pairs id) refl h

takes_by : (b d : Due) (admin : Bool) → b.result.admin ≡ admin → d.result.admin ≡ false → Excludes b d → takes d.result.device b ≡ false
takes_by b d true e plain x = ap (λ (t : Bool). not t && device_eq b.result.device d.result.device) e
takes_by b d false e plain x =
    ap (λ (t : Bool). not t && device_eq b.result.device d.result.device) e
    ∙ false_from (device_eq b.result.device d.result.device) (λ t. x e plain (same_from_device_eq b.result.device d.result.device t))

behind_by : (pairs : HeldPairs) (before : List Due) (d : Due) (admin : Bool) → d.result.admin ≡ admin → (d.result.admin ≡ false → holder_of pairs d.result.device ≡ None) → Each (λ b. Excludes b d) before → held_behind pairs before d ≡ None
behind_by pairs before d true e free fresh =
    ap (λ (t : Bool). cond t None (held_by d (or_else (holder_of pairs d.result.device) (taker_of before d.result.device)))) e
behind_by pairs before d false e free fresh =
    let taker : taker_of before d.result.device ≡ None = no_image_of (λ (t : Due). t.claim) (find (takes d.result.device) before) (none_found (takes d.result.device) before (λ i b g. takes_by b d b.result.admin refl e (fresh i b g))) in
    ap (λ (t : Bool). cond t None (held_by d (or_else (holder_of pairs d.result.device) (taker_of before d.result.device)))) e
    ∙ ap (held_by d) (none_from (holder_of pairs d.result.device) (taker_of before d.result.device) (free e) taker)

last : (z d : Due) → Excludes z d → Each (λ b. Excludes b d) (z ∷ [])
last z d x zero b e = let s : z ≡ b = cc in subst (λ (t : Due). Excludes t d) s x
last z d x (suc i) b e = absurd (cc)

one_more : (before : List Due) (z : Due) (ds : List Due) → Each (λ d. Each (λ b. Excludes b d) before) (z ∷ ds) → EachTwo Excludes (z ∷ ds) → Each (λ d. Each (λ b. Excludes b d) (before ++ z ∷ [])) ds
one_more before z ds fresh once i d e = each_join (λ (b : Due). Excludes b d) before (z ∷ []) (fresh (suc i) d e) (last z d (once 0 (suc i) z d (omega arith) refl e))

pub none_held : (pairs : HeldPairs) (before ds : List Due) → Each (λ d. d.result.admin ≡ false → holder_of pairs d.result.device ≡ None) ds → Each (λ d. Each (λ b. Excludes b d) before) ds → EachTwo Excludes ds
    → held_from pairs before ds ≡ None
none_held pairs before [] free fresh once = refl
none_held pairs before (z ∷ ds) free fresh once =
    none_from (held_behind pairs before z) (held_from pairs (before ++ z ∷ []) ds)
    (behind_by pairs before z z.result.admin refl (free 0 z refl) (fresh 0 z refl))
    (none_held pairs (before ++ z ∷ []) ds (λ i d e. free (suc i) d e) (one_more before z ds fresh once) (λ i j d f lt g h. once (suc i) (suc j) d f (omega arith) g h))

-- ---- counters

within_by : (w : SearchInput) (ps : List Pick) (k : CounterId) → IsCovered w ps k → within w k (total w k ps) ≡ true
within_by w ps k f = ap (λ (o : Option ℕ). is_within o (total w k ps)) f.there ∙ test_at_most (total w k ps) f.value f.enough

short_by : (w : SearchInput) (ps : List Pick) (p : Pick) (admin : Bool) → p.label.admin ≡ admin → (p.label.admin ≡ false → (d : Draw) → Contains (device_draws w p) d → IsCovered w ps d.counter) → short_for w ps p ≡ None
short_by w ps p true e h = ap (λ (t : Bool). cond t None (option_map failure.Counter (short_on w ps p))) e
short_by w ps p false e h =
    ap (λ (t : Bool). cond t None (option_map failure.Counter (short_on w ps p))) e
    ∙ no_image_of failure.Counter (short_on w ps p) (no_image_of (λ (d : Draw). shortfall w ps d.counter) (find (is_short w ps) (device_draws w p))
    (none_found (is_short w ps) (device_draws w p) (λ i d g. ap not (within_by w ps d.counter (h e d (Contains-from_get (device_draws w p) i d g))))))

pub none_short : (w : SearchInput) (ps : List Pick) → Each (λ p. p.label.admin ≡ false → (d : Draw) → Contains (device_draws w p) d → IsCovered w ps d.counter) ps → counter_short w ps ≡ None
none_short w ps h = firsts_are_none (short_for w ps) ps (λ i p e. short_by w ps p p.label.admin refl (h i p e))

-- ---- constraints

have_join : (c : DeviceConstraint) (v : Option Attribute) (xs ys : List agreeing.Pick) → AllHave c v xs → AllHave c v ys → AllHave c v (xs ++ ys)
have_join c v [] ys h k = k
have_join c v (x ∷ xs) ys h k = (h.0, have_join c v xs ys h.1 k)

seen_by_device : (w : SearchInput) (r : Rule) (p : Pick) (v : Attribute) (o : Option Offered) → slice_get w.devices p.position ≡ o → eqb r.claim p.label.claim ≡ true → (is_for r p.label ≡ true → value_of w r p ≡ Some v)
    → AllHave r.constraint (Some v) (seen_some p.label o)
unfolding is_for agreeing.is_named
seen_by_device w r p v None e same h = tt
seen_by_device w r p v (Some o) e same h = (
  λ named. sym (ap (λ (z : Option Offered). attribute_by z r.constraint.attribute) e) ∙ h (both (eqb r.claim p.label.claim) (agreeing.names r.constraint.requests (result_name p.label)) same named),
  tt,
)

seen_by_claim : (w : SearchInput) (r : Rule) (p : Pick) (v : Attribute) (b : Bool) → eqb r.claim p.label.claim ≡ b → (is_for r p.label ≡ true → value_of w r p ≡ Some v)
    → AllHave r.constraint (Some v) (cond b (seen_some p.label (slice_get w.devices p.position)) [])
seen_by_claim w r p v true e h = seen_by_device w r p v (slice_get w.devices p.position) refl e h
seen_by_claim w r p v false e h = tt

all_have : (w : SearchInput) (r : Rule) (ps : List Pick) (v : Attribute) → Each (λ p. is_for r p.label ≡ true → value_of w r p ≡ Some v) ps → AllHave r.constraint (Some v) (seen_all w r ps)
all_have w r [] v h = tt
all_have w r (p ∷ ps) v h = have_join r.constraint (Some v) (seen_for w r p) (seen_all w r ps) (seen_by_claim w r p v (eqb r.claim p.label.claim) refl (h 0 p refl)) (all_have w r ps v (λ i q e. h (suc i) q e))

value_there : {X : Type 0} (o : Option X) → IsSome o → (v : X) × (o ≡ Some v)
value_there None s = absurd (cc)
value_there (Some v) s = (v, refl)

same_pick : (ps : List Pick) (i : ℕ) (p q : Pick) → slice_get ps i ≡ Some p → slice_get ps i ≡ Some q → p ≡ q
same_pick ps i p q e f = cc

two_values : (w : SearchInput) (r : Rule) (ps : List Pick) → IsKept w ps r → (i j : ℕ) (p q : Pick) (b c : Bool) → ltb i j ≡ b → ltb j i ≡ c → slice_get ps i ≡ Some p → slice_get ps j ≡ Some q
    → is_for r p.label ≡ true → is_for r q.label ≡ true → value_of w r q ≡ value_of w r p
two_values w r ps k i j p q true c lt gt e f m n = sym (k.same i j p q (grind (arith, nat_tests, lt)) e f m n)
two_values w r ps k i j p q false true lt gt e f m n = k.same j i q p (grind (arith, nat_tests, gt)) f e n m
two_values w r ps k i j p q false false lt gt e f m n =
    let same : i ≡ j = grind (arith, nat_tests, lt, gt) in
    ap (value_of w r) (same_pick ps j q p f (ap (slice_get ps) (sym same) ∙ e))

value_by : (w : SearchInput) (r : Rule) (ps : List Pick) → IsKept w ps r → (o : Option Pick) → find (λ p. is_for r p.label) ps ≡ o → (v : Attribute) × Each (λ p. is_for r p.label ≡ true → value_of w r p ≡ Some v) ps
value_by w r ps k None e = (attribute.Bool false, λ i p g n. absurd (truth_isnt (is_for r p.label) n (found_none (λ (p : Pick). is_for r p.label) ps e i p g)))
value_by w r ps k (Some p) e =
    let f = found_at (λ (p : Pick). is_for r p.label) ps p e in
    let v = value_there (value_of w r p) (k.present f.0 p f.1 f.2) in
    (v.0, λ j q g n. two_values w r ps k f.0 j p q (ltb f.0 j) (ltb j f.0) refl refl f.1 g f.2 n ∙ v.1)

keeps_by : (w : SearchInput) (r : Rule) (ps : List Pick) → IsKept w ps r → KeepsConstraint r.constraint (seen_all w r ps)
keeps_by w r ps k =
    let v = value_by w r ps k (find (λ p. is_for r p.label) ps) refl in
    record { value = v.0; have = all_have w r ps v.0 v.1 }

none_broken_by : (w : SearchInput) (ps : List Pick) (i n : ℕ) (key : Key) (cs : List DeviceConstraint) → Each (λ r. agreeing.each_agrees r.constraint [] (seen_all w r ps) ≡ true) (map (λ (c : DeviceConstraint). record { claim = i; constraint = c }) cs)
    → broken_by (agree w ps i) key n cs ≡ None
none_broken_by w ps i n key [] h = refl
none_broken_by w ps i n key (c ∷ cs) h =
    ap (λ (b : Bool). cond b (broken_by (agree w ps i) key (n + 1) cs) (Some (failure.Constraint key n))) (h 0 (record { claim = i; constraint = c }) refl)
    ∙ none_broken_by w ps i (n + 1) key cs (λ j r e. h (suc j) r e)

none_disagreed : (w : SearchInput) (ps : List Pick) (i : ℕ) (cs : List ResourceClaim) → Each (λ r. agreeing.each_agrees r.constraint [] (seen_all w r ps) ≡ true) (rules_from i cs) → disagreed_from w ps i cs ≡ None
none_disagreed w ps i [] h = refl
none_disagreed w ps i (c ∷ cs) h =
    let P : Rule → Type 0 = λ r. agreeing.each_agrees r.constraint [] (seen_all w r ps) ≡ true in
    let mine : List Rule = map (λ (c : DeviceConstraint). record { claim = i; constraint = c }) c.constraints in
    none_from (broken_by (agree w ps i) c.key 0 c.constraints) (disagreed_from w ps (i + 1) cs)
    (none_broken_by w ps i 0 c.key c.constraints (each_left P mine (rules_from (i + 1) cs) h)) (none_disagreed w ps (i + 1) cs (each_right P mine (rules_from (i + 1) cs) h))

-- each constraint agrees, if those that are kept agree
pub none_broken : (w : SearchInput) (ps : List Pick) → ((c : DeviceConstraint) (xs : List agreeing.Pick) → KeepsConstraint c xs → agreeing.each_agrees c [] xs ≡ true)
    → ((r : Rule) → Contains (rules_of w) r → IsKept w ps r) → constraint_broken w ps ≡ None
unfolding rules_of
none_broken w ps law h = none_disagreed w ps 0 w.claims (λ i r e. law r.constraint (seen_all w r ps) (keeps_by w r ps (h r (Contains-from_get (rules_from 0 w.claims) i r e))))
