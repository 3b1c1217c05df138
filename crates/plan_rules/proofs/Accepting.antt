-- A plan, or a status write, of an allocation has no failure.
use Rattle.std.proofs.Common.{ℕ, ◌≡◌, List, [], ◌∷◌, Bool, true, false, not, cond, eqb, Option, None, Some, refl, sym, ap, ◌∙◌, subst}
use Rattle.std.specs.List.{slice_get}
use Rattle.std.specs.Option.{is_none, option_map, IsSome}
use Rattle.object_fields.specs.declared.key.Key.{Key}
use Rattle.api_claim.specs.Limits.{EachOf, RequestsKept}
use Rattle.api_claim.specs.declared.types.ClaimStatus.{ClaimStatus}
use Rattle.api_claim.specs.declared.types.ResourceClaim.{ResourceClaim}
use Rattle.api_cluster.specs.declared.types.Pod.{Pod}
use Rattle.pool_view.specs.Names.{at_key, at_name, text_eq}
use Rattle.pool_view.specs.Pools.{Offered, id_in}
use Rattle.pool_view.specs.Usable.{node_devices}
use Rattle.pool_view.specs.declared.inventory.Inventory.{Inventory}
use Rattle.cluster.specs.State.{may_use}
use Rattle.cluster.specs.declared.failure.Failure.TheVariants as failure
use Rattle.cluster.specs.declared.plan.Grant.{Grant}
use Rattle.cluster.specs.declared.plan.KnownClaim.{KnownClaim}
use Rattle.cluster.specs.declared.plan.Plan.{Plan}
use Rattle.cluster.specs.declared.state.ClaimState.{ClaimState}
use Rattle.cluster.specs.declared.state.Granted.{Granted}
use Rattle.cluster.specs.declared.state.PodState.{PodState}
use Rattle.cluster.specs.declared.state.State.{State}
use Rattle.allocations.specs.Allocation.{IsAllocation}
use Rattle.allocations.specs.Claims.{add_ungranted, add_wanted, keys_of_pod, wanted, wanted_of}
use Rattle.allocations.specs.Input.{input_of}
use Rattle.request_rules.specs.Lists.{or_else}
use Rattle.plan_rules.specs.Failing.{failing, failing_at, failing_for, failing_in, failing_status, failing_write, granted_by, node_gone}
use Rattle.plan_rules.specs.Fits.{FitsPod, IsAsKnown}
use Rattle.plan_rules.specs.Known.{changed, claim_changed, claim_full, claim_gone, is_changed, is_full, is_gone, is_other, pod_changed, same_node}
use Rattle.plan_rules.specs.Meant.{KeepLimits}
use Rattle.plan_rules.proofs.Elements.{Contains-from_get, none_found}
use Rattle.plan_rules.proofs.Fitting.{Ids}
use Rattle.plan_rules.proofs.Passing.{AgreeLaw, nothing_stands}
use Rattle.plan_rules.proofs.Tolerating.{OnlyLaw}
use Rattle.plan_rules.proofs.Tests.{both, none_from, same_number, text_eq-same}

-- a law of `pool_view`
abbrev pub IdsLaw : Type 0
IdsLaw = (i : Inventory) (node : List ℕ) (n m : ℕ) (o p : Offered) → slice_get (node_devices i node) n ≡ Some o → slice_get (node_devices i node) m ≡ Some p → id_in o ≡ id_in p → n ≡ m

-- ---- the grants

ids_of : (law : IdsLaw) (s : State) (claims : List ResourceClaim) (node : List ℕ) → Ids (input_of s claims node)
unfolding input_of
ids_of law s claims node n m o p e f g = law s.inventory node n m o p e f g

claims_of : (s : State) (claims : List ResourceClaim) (node : List ℕ) → (input_of s claims node).claims ≡ claims
unfolding input_of
claims_of s claims node = refl

isnt_none : {X : Type 0} (o : Option X) → IsSome o → is_none o ≡ false
isnt_none None e = absurd (cc)
isnt_none (Some x) e = refl

pub none_at_node : (agree : AgreeLaw) (only : OnlyLaw) (ids : IdsLaw) (s : State) (claims : List ResourceClaim) (node : List ℕ) (choice : List ℕ) (grants : List Grant) → EachOf (λ c. RequestsKept c.requests) claims
    → IsAllocation s claims node choice grants → failing_at s claims node grants ≡ None
unfolding failing_at
none_at_node agree only ids s claims node choice grants kept a =
    let w = input_of s claims node in
    let limits : EachOf (λ c. RequestsKept c.requests) w.claims = subst (λ (cs : List ResourceClaim). EachOf (λ c. RequestsKept c.requests) cs) (sym (claims_of s claims node)) kept in
    none_from (node_gone s node) (failing_in w grants)
    (ap (λ (b : Bool). cond b (Some (failure.NodeGone node)) None) (isnt_none (at_name s.inventory.nodes node) a.node_known))
    (nothing_stands agree only w (ids_of ids s claims node) limits choice a.results grants a.meant a.cut)

-- ---- the claims that a pod needs keep their limits

ungranted_kept : (k : Key) (c : ClaimState) (g : Option Granted) (claims : List ResourceClaim) → RequestsKept c.claim.object.requests → EachOf (λ c. RequestsKept c.requests) claims → EachOf (λ c. RequestsKept c.requests) (add_ungranted k c g claims)
ungranted_kept k c None claims h r = (h, r)
ungranted_kept k c (Some g) claims h r = r

wanted_by : (s : State) → KeepLimits s → (k : Key) (o : Option ClaimState) (claims : List ResourceClaim) → at_key s.claims k ≡ o → EachOf (λ c. RequestsKept c.requests) claims → EachOf (λ c. RequestsKept c.requests) (add_wanted k o claims)
wanted_by s keep k None claims e r = r
wanted_by s keep k (Some c) claims e r = ungranted_kept k c c.grant claims (keep.claims k c e).requests r

wanted_each : (s : State) → KeepLimits s → (ks : List Key) → EachOf (λ c. RequestsKept c.requests) (wanted_of s ks)
wanted_each s keep [] = tt
wanted_each s keep (k ∷ ks) = wanted_by s keep k (at_key s.claims k) (wanted_of s ks) refl (wanted_each s keep ks)

wanted_kept : (s : State) → KeepLimits s → (p : Pod) → EachOf (λ c. RequestsKept c.requests) (wanted s p)
unfolding wanted
wanted_kept s keep p = wanted_each s keep (keys_of_pod p)

-- ---- what the plan knew

pub same_node_by : (g : Option Granted) (node : Option (List ℕ)) → option_map (λ (g : Granted). g.node) g ≡ node → same_node g node ≡ true
same_node_by None None e = refl
same_node_by None (Some n) e = absurd (cc)
same_node_by (Some g) None e = absurd (cc)
same_node_by (Some g) (Some n) e = let f : g.node ≡ n = cc in sym (ap (text_eq g.node) f) ∙ text_eq-same g.node

is_there : (s : State) (pod : Key) (k : KnownClaim) → IsAsKnown s pod k → is_gone s k ≡ false
is_there s pod k f = ap is_none f.there

is_same : (s : State) (pod : Key) (k : KnownClaim) → IsAsKnown s pod k → is_changed s k ≡ false
is_same s pod k f =
    ap (is_other k) f.there
    ∙ ap not (both (eqb f.state.claim.uid k.uid) (same_node f.state.grant k.node) (same_number f.state.claim.uid k.uid f.uid) (same_node_by f.state.grant k.node f.node))

has_room : (s : State) (pod : Key) (k : KnownClaim) → IsAsKnown s pod k → is_full s pod k ≡ false
has_room s pod k f = ap (λ (o : Option ClaimState). not (may_use pod o)) f.there ∙ ap not f.room

none_for : (s : State) (pod : Key) (p : PodState) (plan : Plan) → FitsPod s pod p plan → failing_at s (wanted s p.pod.object) plan.node plan.grants ≡ None
    → or_else (claim_gone s plan.known.claims) (or_else (changed s pod p plan) (or_else (claim_full s pod plan.known.claims) (failing_at s (wanted s p.pod.object) plan.node plan.grants))) ≡ None
none_for s pod p plan f e =
    let ks = plan.known.claims in
    let at = failing_at s (wanted s p.pod.object) plan.node plan.grants in
    none_from (claim_gone s ks) (or_else (changed s pod p plan) (or_else (claim_full s pod ks) at))
    (ap (option_map (λ (k : KnownClaim). failure.ClaimGone k.claim)) (none_found (is_gone s) ks (λ i k g. is_there s pod k (f.claims k (Contains-from_get ks i k g)))))
    (none_from (changed s pod p plan) (or_else (claim_full s pod ks) at)
    (none_from (pod_changed pod p plan) (claim_changed s ks)
    (ap (λ (b : Bool). cond b None (Some (failure.ClaimChanged pod))) (same_number p.pod.uid plan.known.pod f.uid))
    (ap (option_map (λ (k : KnownClaim). failure.ClaimChanged k.claim)) (none_found (is_changed s) ks (λ i k g. is_same s pod k (f.claims k (Contains-from_get ks i k g))))))
    (none_from (claim_full s pod ks) at
    (ap (option_map (λ (k : KnownClaim). failure.Users k.claim)) (none_found (is_full s pod) ks (λ i k g. has_room s pod k (f.claims k (Contains-from_get ks i k g)))))
    e))

none_failing : (s : State) (pod : Key) (p : PodState) (plan : Plan) → FitsPod s pod p plan → failing_at s (wanted s p.pod.object) plan.node plan.grants ≡ None → failing s pod plan ≡ None
unfolding failing
none_failing s pod p plan f e = ap (λ (o : Option PodState). or_else (claim_gone s plan.known.claims) (failing_for s pod o plan)) f.there ∙ none_for s pod p plan f e

pub plan_passes : (agree : AgreeLaw) (only : OnlyLaw) (ids : IdsLaw) (s : State) (pod : Key) (plan : Plan) (p : PodState) (choice : List ℕ) → KeepLimits s → FitsPod s pod p plan → IsAllocation s (wanted s p.pod.object) plan.node choice plan.grants
    → failing s pod plan ≡ None
plan_passes agree only ids s pod plan p choice keep f a =
    none_failing s pod p plan f (none_at_node agree only ids s (wanted s p.pod.object) plan.node choice plan.grants (wanted_kept s keep p.pod.object) a)

-- ---- status writes

pub status_passes : (agree : AgreeLaw) (only : OnlyLaw) (ids : IdsLaw) (s : State) (claim : Key) (status : ClaimStatus) (c : ClaimState) (choice : List ℕ) → KeepLimits s → at_key s.claims claim ≡ Some c
    → IsAllocation s (record c.claim.object { key = claim } ∷ []) status.node choice (granted_by claim status ∷ []) → failing_status s claim status ≡ None
unfolding failing_status
status_passes agree only ids s claim status c choice keep e a =
    ap (failing_write s claim status) e
    ∙ none_at_node agree only ids s (record c.claim.object { key = claim } ∷ []) status.node choice (granted_by claim status ∷ []) ((keep.claims claim c e).requests, tt) a
