-- A plan that knew its pod, and fits it, is of the pod as it is now; and back.
use Rattle.std.proofs.Common.{ℕ, zero, suc, ◌≡◌, List, [], ◌∷◌, Bool, true, false, not, cond, Option, None, Some, filter, map, refl, sym, ap, ◌∙◌, subst}
use Rattle.std.specs.List.{All, AllByRecursion}
use Rattle.std.specs.Option.{is_none, is_some, option_map}
use Rattle.std.proofs.lemmas.Option.{get_or_from_slice_get, slice_get_within}
use Rattle.object_fields.specs.declared.key.Key.{Key}
use Rattle.pool_view.specs.Names.{at_key, text_eq}
use Rattle.cluster.specs.Claims.{add_known, known_claim, known_claims, known_of}
use Rattle.cluster.specs.State.{claims_of, may_use}
use Rattle.cluster.specs.declared.plan.Known.{Known}
use Rattle.cluster.specs.declared.plan.KnownClaim.{KnownClaim}
use Rattle.cluster.specs.declared.plan.Plan.{Plan}
use Rattle.cluster.specs.declared.state.ClaimState.{ClaimState}
use Rattle.cluster.specs.declared.state.Granted.{Granted}
use Rattle.cluster.specs.declared.state.PodState.{PodState}
use Rattle.cluster.specs.declared.state.State.{State}
use Rattle.allocations.specs.Claims.{has_grant, is_elsewhere, is_off, joined, missing_claim, other_claim}
use Rattle.request_rules.specs.Lists.{Each}
use Rattle.plan_rules.specs.Fits.{FitsPod, IsAsKnown, IsOfPod}
use Rattle.plan_rules.specs.Meant.{IsNode, KnewItsPod}
use Rattle.plan_rules.proofs.Elements.{Contains-from_get, each_of_map, each_to_map, found_none, get-from_contains, none_found, there}
use Rattle.plan_rules.proofs.Tests.{same_from_text_eq, text_eq-same}

abbrev names : List KnownClaim → List Key
names ks = map (λ k. k.claim) ks

abbrev granted_node : ClaimState → Option (List ℕ)
granted_node c = option_map (λ (g : Granted). g.node) c.grant

same_known : (k : Key) (u v : ℕ) (m n : Option (List ℕ)) → u ≡ v → m ≡ n → ◌≡◌ {A = KnownClaim} (record { claim = k; uid = u; node = m }) (record { claim = k; uid = v; node = n })
same_known k u v m n e f = cc

same_parts : (u v : ℕ) (ks ls : List KnownClaim) → u ≡ v → ks ≡ ls → ◌≡◌ {A = Known} (record { pod = u; claims = ks }) (record { pod = v; claims = ls })
same_parts u v ks ls e f = cc

-- ---- lists

all_of : {X : Type 0} (P : X → Type 0) (xs : List X) → Each P xs → All P xs
all_of P xs h k d lt =
    let t = there xs k lt in
    subst P (sym (get_or_from_slice_get xs k t.0 d t.1)) (h k t.0 t.1)

each_of_all : {X : Type 0} (P : X → Type 0) (xs : List X) → All P xs → Each P xs
each_of_all P xs h i x e = subst P (get_or_from_slice_get xs i x x e) (h i x (slice_get_within xs i x e))

recursion_at : {X : Type 0} (P : X → Type 0) (xs : List X) → AllByRecursion P xs → Each P xs
recursion_at P [] h i x e = absurd (cc)
recursion_at P (y ∷ ys) h zero x e = let s : y ≡ x = cc in subst P s h.0
recursion_at P (y ∷ ys) h (suc i) x e = recursion_at P ys h.1 i x e

recursion_from : {X : Type 0} (P : X → Type 0) (xs : List X) → Each P xs → AllByRecursion P xs
recursion_from P [] h = tt
recursion_from P (y ∷ ys) h = (h 0 y refl, recursion_from P ys (λ i x e. h (suc i) x e))

filter_alike : {X : Type 0} (p q : X → Bool) (xs : List X) → Each (λ x. p x ≡ q x) xs → filter p xs ≡ filter q xs
filter_alike p q [] h = refl
filter_alike {X} p q (x ∷ xs) h =
    ap (λ (b : Bool). cond b (x ∷ filter p xs) (filter p xs)) (h 0 x refl)
    ∙ ap (λ (l : List X). cond (q x) (x ∷ l) l) (filter_alike p q xs (λ i y e. h (suc i) y e))

cond_names : (b : Bool) (k : KnownClaim) (l : List KnownClaim) → names (cond b (k ∷ l) l) ≡ cond b (k.claim ∷ names l) (names l)
cond_names true k l = refl
cond_names false k l = refl

-- a filter of names is the names of a filter
filter_names : (p : Key → Bool) (ks : List KnownClaim) → filter p (names ks) ≡ names (filter (λ k. p k.claim) ks)
filter_names p [] = refl
filter_names p (k ∷ ks) =
    ap (λ (l : List Key). cond (p k.claim) (k.claim ∷ l) l) (filter_names p ks)
    ∙ sym (cond_names (p k.claim) k (filter (λ k. p k.claim) ks))

-- ---- what the plan knew is what the state has

known_here : (s : State) (pod : Key) (k : KnownClaim) (rest : List KnownClaim) → IsAsKnown s pod k → add_known k.claim (at_key s.claims k.claim) rest ≡ k ∷ rest
known_here s pod k rest f =
    ap (λ (o : Option ClaimState). add_known k.claim o rest) f.there
    ∙ ap (λ (z : KnownClaim). z ∷ rest) (same_known k.claim f.state.claim.uid k.uid (granted_node f.state) k.node f.uid f.node)

known_all : (s : State) (pod : Key) (ks : List KnownClaim) → Each (IsAsKnown s pod) ks → known_claims s (names ks) ≡ ks
known_all s pod [] h = refl
known_all s pod (k ∷ ks) h =
    known_here s pod k (known_claims s (names ks)) (h 0 k refl) ∙ ap (λ (l : List KnownClaim). k ∷ l) (known_all s pod ks (λ i x e. h (suc i) x e))

off_by : (node : List ℕ) (g : Option Granted) (m : Option (List ℕ)) → option_map (λ (g : Granted). g.node) g ≡ m → IsNode node m → is_off node g ≡ false
off_by node None m e h = refl
off_by node (Some g) None e h = absurd (cc)
off_by node (Some g) (Some n) e h =
    let f : g.node ≡ n = cc in
    ap (λ (z : List ℕ). not (text_eq z node)) (f ∙ h) ∙ ap not (text_eq-same node)

grant_by : (g : Option Granted) (m : Option (List ℕ)) → option_map (λ (g : Granted). g.node) g ≡ m → is_some g ≡ is_some m
grant_by None None e = refl
grant_by None (Some n) e = absurd (cc)
grant_by (Some g) None e = absurd (cc)
grant_by (Some g) (Some n) e = refl

here_by : (s : State) (pod : Key) (node : List ℕ) (k : KnownClaim) → IsAsKnown s pod k → IsNode node k.node → is_elsewhere node (at_key s.claims k.claim) ≡ false
here_by s pod node k f h = ap (is_elsewhere node) f.there ∙ off_by node f.state.grant k.node f.node h

joins_by : (s : State) (pod : Key) (k : KnownClaim) → IsAsKnown s pod k → has_grant (at_key s.claims k.claim) ≡ is_some k.node
joins_by s pod k f = ap has_grant f.there ∙ grant_by f.state.grant k.node f.node

each_known : (s : State) (pod : Key) (p : PodState) (plan : Plan) → FitsPod s pod p plan → Each (IsAsKnown s pod) plan.known.claims
each_known s pod p plan f i k e = f.claims k (Contains-from_get plan.known.claims i k e)

named : (P : Key → Type 0) (p : PodState) (plan : Plan) → KnewItsPod p plan → Each (λ k. P k.claim) plan.known.claims → Each P (claims_of p)
named P p plan k h = subst (λ (l : List Key). Each P l) k.claims (each_to_map (λ (z : KnownClaim). z.claim) P plan.known.claims h)

pub is_of_pod : (s : State) (pod : Key) (p : PodState) (plan : Plan) → KnewItsPod p plan → FitsPod s pod p plan → IsOfPod s pod p plan
unfolding known_of missing_claim other_claim joined
is_of_pod s pod p plan k f =
    let ks = plan.known.claims in
    let each = each_known s pod p plan f in
    let at = recursion_at (λ k. IsNode plan.node k.node) ks k.node in
    record {
      there = f.there;
      known = same_parts plan.known.pod p.pod.uid ks (known_claims s (claims_of p)) (sym f.uid) (sym (known_all s pod ks each) ∙ ap (known_claims s) k.claims);
      claims = none_found (λ k. is_none (at_key s.claims k)) (claims_of p) (named (λ k. is_none (at_key s.claims k) ≡ false) p plan k (λ i x e. ap is_none (each i x e).there));
      users = all_of (λ k. may_use pod (at_key s.claims k) ≡ true) (claims_of p) (named (λ k. may_use pod (at_key s.claims k) ≡ true) p plan k (λ i x e. ap (may_use pod) (each i x e).there ∙ (each i x e).room));
      here = none_found (λ k. is_elsewhere plan.node (at_key s.claims k)) (claims_of p) (named (λ k. is_elsewhere plan.node (at_key s.claims k) ≡ false) p plan k (λ i x e. here_by s pod plan.node x (each i x e) (at i x e)));
      joins =
          k.joins
          ∙ ap names (sym (filter_alike (λ (k : KnownClaim). has_grant (at_key s.claims k.claim)) (λ k. is_some k.node) ks (λ i x e. joins_by s pod x (each i x e))))
          ∙ sym (filter_names (λ k. has_grant (at_key s.claims k)) ks)
          ∙ ap (filter (λ k. has_grant (at_key s.claims k))) k.claims;
    }

-- ---- and back

there_of : (s : State) (k : Key) (o : Option ClaimState) → at_key s.claims k ≡ o → is_none o ≡ false → (c : ClaimState) × (at_key s.claims k ≡ Some c)
there_of s k None e f = absurd (cc)
there_of s k (Some c) e f = (c, e)

-- what the state has at a key
record Read (s : State) (pod : Key) (k : KnownClaim) : Type 0 where
  state : ClaimState
  there : at_key s.claims k.claim ≡ Some state
  is : known_claim k.claim state ≡ k

read_more : (s : State) (pod : Key) (k : KnownClaim) (ks : List KnownClaim) → Read s pod k → Each (Read s pod) ks → Each (Read s pod) (k ∷ ks)
read_more s pod k ks r h zero x e = let f : k ≡ x = cc in subst (Read s pod) f r
read_more s pod k ks r h (suc i) x e = h i x e

read_all : (s : State) (pod : Key) (keys : List Key) → Each (λ k. is_none (at_key s.claims k) ≡ false) keys → (names (known_claims s keys) ≡ keys) × Each (Read s pod) (known_claims s keys)
read_all s pod [] h = (refl, λ i k e. absurd (cc))
read_all s pod (k ∷ keys) h =
    let t = there_of s k (at_key s.claims k) refl (h 0 k refl) in
    let rest = read_all s pod keys (λ i x e. h (suc i) x e) in
    let is : known_claims s (k ∷ keys) ≡ known_claim k t.0 ∷ known_claims s keys = ap (λ (o : Option ClaimState). add_known k o (known_claims s keys)) t.1 in
    let read : Read s pod (known_claim k t.0) = record { state = t.0; there = t.1; is = refl } in (
      ap names is ∙ ap (λ (l : List Key). k ∷ l) rest.0,
      subst (λ (l : List KnownClaim). Each (Read s pod) l) (sym is) (read_more s pod (known_claim k t.0) (known_claims s keys) read rest.1),
    )

is_yes : (b : Bool) → not b ≡ false → b ≡ true
is_yes true e = refl
is_yes false e = absurd (cc)

node_of : (node : List ℕ) (g : Option Granted) (m : Option (List ℕ)) → option_map (λ (g : Granted). g.node) g ≡ m → is_off node g ≡ false → IsNode node m
node_of node None None e h = tt
node_of node None (Some n) e h = absurd (cc)
node_of node (Some g) None e h = absurd (cc)
node_of node (Some g) (Some n) e h =
    let f : g.node ≡ n = cc in
    sym f ∙ same_from_text_eq g.node node (is_yes (text_eq g.node node) h)

back_by : (s : State) (pod : Key) (p : PodState) (plan : Plan) → at_key s.pods pod ≡ Some p → plan.known.pod ≡ p.pod.uid → names plan.known.claims ≡ claims_of p → Each (Read s pod) plan.known.claims
    → Each (λ k. may_use pod (at_key s.claims k) ≡ true) (claims_of p) → Each (λ k. is_elsewhere plan.node (at_key s.claims k) ≡ false) (claims_of p) → plan.joins ≡ filter (λ k. has_grant (at_key s.claims k)) (claims_of p)
    → KnewItsPod p plan × FitsPod s pod p plan
back_by s pod p plan e uid keys read users here joins =
    let ks = plan.known.claims in
    let room = each_of_map (λ (z : KnownClaim). z.claim) (λ (k : Key). may_use pod (at_key s.claims k) ≡ true) ks (subst (λ (l : List Key). Each (λ k. may_use pod (at_key s.claims k) ≡ true) l) (sym keys) users) in
    let on = each_of_map (λ (z : KnownClaim). z.claim) (λ (k : Key). is_elsewhere plan.node (at_key s.claims k) ≡ false) ks (subst (λ (l : List Key). Each (λ k. is_elsewhere plan.node (at_key s.claims k) ≡ false) l) (sym keys) here) in
    let each : Each (IsAsKnown s pod) ks = λ i k g.
    let r = read i k g in
    record {
      state = r.state;
      there = r.there;
      uid = ap (λ (z : KnownClaim). z.uid) r.is;
      node = ap (λ (z : KnownClaim). z.node) r.is;
      room = ap (may_use pod) (sym r.there) ∙ room i k g;
    } in (
      record {
        claims = keys;
        joins =
            joins ∙ ap (filter (λ k. has_grant (at_key s.claims k))) (sym keys)
            ∙ filter_names (λ k. has_grant (at_key s.claims k)) ks
            ∙ ap names (filter_alike (λ (k : KnownClaim). has_grant (at_key s.claims k.claim)) (λ k. is_some k.node) ks (λ i x g. joins_by s pod x (each i x g)));
        node = recursion_from (λ k. IsNode plan.node k.node) ks (λ i k g.
            let r = each i k g in
            node_of plan.node r.state.grant k.node r.node (ap (is_elsewhere plan.node) (sym r.there) ∙ on i k g));
      },
      record {
        there = e;
        uid = sym uid;
        claims = λ k h. each h.0 k (get-from_contains ks k h);
      },
    )

pub of_pod_fits : (s : State) (pod : Key) (p : PodState) (plan : Plan) → IsOfPod s pod p plan → KnewItsPod p plan × FitsPod s pod p plan
unfolding known_of missing_claim other_claim joined
of_pod_fits s pod p plan o =
    let keys = claims_of p in
    let all = read_all s pod keys (found_none (λ k. is_none (at_key s.claims k)) keys o.claims) in
    let known : plan.known.claims ≡ known_claims s keys = ap (λ (z : Known). z.claims) o.known in
    back_by s pod p plan o.there (ap (λ (z : Known). z.pod) o.known) (ap names known ∙ all.0) (subst (λ (l : List KnownClaim). Each (Read s pod) l) (sym known) all.1)
    (each_of_all (λ k. may_use pod (at_key s.claims k) ≡ true) keys o.users)
    (found_none (λ k. is_elsewhere plan.node (at_key s.claims k)) keys o.here) o.joins
