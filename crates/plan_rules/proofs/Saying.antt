-- What failures of plans and status writes mean.
use Rattle.std.proofs.Common.{ℕ, ◌≡◌, List, [], ◌∷◌, Bool, true, false, cond, eqb, Option, None, Some, map, inl, inr, refl, sym, ap, ◌∙◌, subst}
use Rattle.std.specs.List.{slice_get, Contains}
use Rattle.std.specs.Option.{is_none}
use Rattle.object_fields.specs.declared.key.Key.{Key}
use Rattle.api_claim.specs.declared.types.ClaimStatus.{ClaimStatus}
use Rattle.api_claim.specs.declared.types.ResourceClaim.{ResourceClaim}
use Rattle.pool_view.specs.Names.{at_key, at_name}
use Rattle.cluster.specs.Claims.{known_claim}
use Rattle.cluster.specs.State.{may_use}
use Rattle.cluster.specs.declared.failure.Failure.{Failure}
use Rattle.cluster.specs.declared.failure.Failure.TheVariants as failure
use Rattle.cluster.specs.declared.plan.Grant.{Grant}
use Rattle.cluster.specs.declared.plan.KnownClaim.{KnownClaim}
use Rattle.cluster.specs.declared.plan.Plan.{Plan}
use Rattle.cluster.specs.declared.state.ClaimState.{ClaimState}
use Rattle.cluster.specs.declared.state.PodState.{PodState}
use Rattle.cluster.specs.declared.state.State.{State}
use Rattle.allocations.specs.Claims.{wanted}
use Rattle.allocations.specs.Input.{input_of}
use Rattle.request_rules.specs.Lists.{or_else}
use Rattle.plan_rules.specs.Failing.{failing, failing_at, failing_for, failing_in, failing_pod, failing_status, failing_write, granted_by, node_gone}
use Rattle.plan_rules.specs.Known.{changed, claim_changed, claim_full, claim_gone, is_changed, is_full, is_gone, is_known, is_other, pod_changed, same_node}
use Rattle.plan_rules.specs.Says.{ClaimIsChanged, GrantsSay, IsChanged, PlanSays, PodIsChanged}
use Rattle.plan_rules.proofs.Accepting.{same_node_by}
use Rattle.plan_rules.proofs.Elements.{Contains-from_get, map-at}
use Rattle.plan_rules.proofs.Telling.{AgreedLaw, FaultLaw, Tells, either_by, found_of, grants_tell, none_is}
use Rattle.plan_rules.proofs.Tolerating.{OnlyLaw}
use Rattle.plan_rules.proofs.Tests.{both, is_false, same_number, some_is, truth_isnt}

-- ---- grants on a node

says_by : (s : State) (claims : List ResourceClaim) (node : List ℕ) (grants : List Grant) (f : Failure) → Tells (input_of s claims node) grants f → GrantsSay s claims node grants f
says_by s claims node grants (failure.ClaimGone k) t = t
says_by s claims node grants (failure.ClaimChanged k) t = t
says_by s claims node grants (failure.Users k) t = t
says_by s claims node grants (failure.NodeGone name) t = absurd t
says_by s claims node grants (failure.DeviceGone d) t = t
says_by s claims node grants (failure.Shape k) t = t
says_by s claims node grants (failure.SelectorNo d) t = t
says_by s claims node grants (failure.SelectorFault d) t = t
says_by s claims node grants (failure.Tainted d) t = t
says_by s claims node grants (failure.Held d k) t = t
says_by s claims node grants (failure.Counter c) t = t
says_by s claims node grants (failure.Constraint k n) t = t

node_by : (s : State) (claims : List ResourceClaim) (node : List ℕ) (grants : List Grant) (f : Failure) (b : Bool) → is_none (at_name s.inventory.nodes node) ≡ b → cond b (Some (failure.NodeGone node)) None ≡ Some f → GrantsSay s claims node grants f
node_by s claims node grants f true e g =
    subst (GrantsSay s claims node grants) (some_is (failure.NodeGone node) f g) (record { is = refl; none = none_is (at_name s.inventory.nodes node) e })
node_by s claims node grants f false e g = absurd (cc)

pub grants_say : (faults : FaultLaw) (only : OnlyLaw) (agreed : AgreedLaw) (s : State) (claims : List ResourceClaim) (node : List ℕ) (grants : List Grant) (f : Failure) → failing_at s claims node grants ≡ Some f → GrantsSay s claims node grants f
unfolding failing_at
grants_say faults only agreed s claims node grants f e =
    let w = input_of s claims node in
    either_by (node_gone s node) (failing_in w grants) f (GrantsSay s claims node grants f) e
    (node_by s claims node grants f (is_none (at_name s.inventory.nodes node)) refl)
    (λ there g. says_by s claims node grants f (grants_tell faults only agreed w grants f g))

-- ---- the pod and its claims

key_listed : (ks : List KnownClaim) (i : ℕ) (k : KnownClaim) → slice_get ks i ≡ Some k → Contains (map (λ k. k.claim) ks) k.claim
key_listed ks i k e = Contains-from_get (map (λ (k : KnownClaim). k.claim) ks) i k.claim (map-at (λ (k : KnownClaim). k.claim) ks i k e)

gone_says : (s : State) (pod : Key) (plan : Plan) (f : Failure) → claim_gone s plan.known.claims ≡ Some f → PlanSays s pod plan f
gone_says s pod plan f e =
    let ks = plan.known.claims in
    let r = found_of (λ (k : KnownClaim). failure.ClaimGone k.claim) (is_gone s) ks f e in
    subst (PlanSays s pod plan) r.is (record { known = key_listed ks r.at r.it r.get; gone = none_is (at_key s.claims r.it.claim) r.passes })

full_says : (s : State) (pod : Key) (plan : Plan) (f : Failure) → claim_full s pod plan.known.claims ≡ Some f → PlanSays s pod plan f
full_says s pod plan f e =
    let ks = plan.known.claims in
    let r = found_of (λ (k : KnownClaim). failure.Users k.claim) (is_full s pod) ks f e in
    subst (PlanSays s pod plan) r.is (record { known = key_listed ks r.at r.it r.get; full = is_false (may_use pod (at_key s.claims r.it.claim)) r.passes })

other_pod : (s : State) (pod : Key) (plan : Plan) (f : Failure) (o : Option PodState) → at_key s.pods pod ≡ o → PodIsChanged plan o → failure.ClaimChanged pod ≡ f → PlanSays s pod plan f
other_pod s pod plan f o e c is =
    let here : PodIsChanged plan (at_key s.pods pod) = subst (PodIsChanged plan) (sym e) c in
    let all : IsChanged s pod plan pod = inl (refl, here) in
    subst (PlanSays s pod plan) is all

pod_says : (s : State) (pod : Key) (p : PodState) (plan : Plan) (f : Failure) (b : Bool) → at_key s.pods pod ≡ Some p → eqb p.pod.uid plan.known.pod ≡ b → cond b None (Some (failure.ClaimChanged pod)) ≡ Some f → PlanSays s pod plan f
pod_says s pod p plan f true e g h = absurd (cc)
pod_says s pod p plan f false e g h =
    other_pod s pod plan f (Some p) e (λ same. truth_isnt (eqb p.pod.uid plan.known.pod) (same_number p.pod.uid plan.known.pod same) g) (some_is (failure.ClaimChanged pod) f h)

known_by : (k : KnownClaim) (c : ClaimState) → known_claim k.claim c ≡ k → is_known k c ≡ true
known_by k c e =
    both (eqb c.claim.uid k.uid) (same_node c.grant k.node) (same_number c.claim.uid k.uid (ap (λ (z : KnownClaim). z.uid) e)) (same_node_by c.grant k.node (ap (λ (z : KnownClaim). z.node) e))

other_claim : (s : State) (plan : Plan) (k : KnownClaim) (o : Option ClaimState) → Contains plan.known.claims k → at_key s.claims k.claim ≡ o → is_other k o ≡ true → ClaimIsChanged s plan k.claim
other_claim s plan k None h e g = absurd (cc)
other_claim s plan k (Some c) h e g = record {
  knew = k;
  known = h;
  claim_is = refl;
  state = c;
  there = e;
  other = λ same. truth_isnt (is_known k c) (known_by k c same) (is_false (is_known k c) g);
}

changed_says : (s : State) (pod : Key) (plan : Plan) (f : Failure) → claim_changed s plan.known.claims ≡ Some f → PlanSays s pod plan f
changed_says s pod plan f e =
    let ks = plan.known.claims in
    let r = found_of (λ (k : KnownClaim). failure.ClaimChanged k.claim) (is_changed s) ks f e in
    let all : IsChanged s pod plan r.it.claim = inr (other_claim s plan r.it (at_key s.claims r.it.claim) (Contains-from_get ks r.at r.it r.get) refl r.passes) in
    subst (PlanSays s pod plan) r.is all

-- ---- plans

plan_by : (s : State) (pod : Key) (plan : Plan) (p : PodState) (f : Failure) → at_key s.pods pod ≡ Some p → GrantsSay s (wanted s p.pod.object) plan.node plan.grants f → PlanSays s pod plan f
plan_by s pod plan p (failure.ClaimGone k) e g = absurd g
plan_by s pod plan p (failure.ClaimChanged k) e g = absurd g
plan_by s pod plan p (failure.Users k) e g = absurd g
plan_by s pod plan p (failure.NodeGone name) e g = record { state = p; there = e; says = g }
plan_by s pod plan p (failure.DeviceGone d) e g = record { state = p; there = e; says = g }
plan_by s pod plan p (failure.Shape k) e g = record { state = p; there = e; says = g }
plan_by s pod plan p (failure.SelectorNo d) e g = record { state = p; there = e; says = g }
plan_by s pod plan p (failure.SelectorFault d) e g = record { state = p; there = e; says = g }
plan_by s pod plan p (failure.Tainted d) e g = record { state = p; there = e; says = g }
plan_by s pod plan p (failure.Held d k) e g = record { state = p; there = e; says = g }
plan_by s pod plan p (failure.Counter c) e g = record { state = p; there = e; says = g }
plan_by s pod plan p (failure.Constraint k n) e g = record { state = p; there = e; says = g }

pod_tells : (faults : FaultLaw) (only : OnlyLaw) (agreed : AgreedLaw) (s : State) (pod : Key) (plan : Plan) (p : PodState) (f : Failure) → at_key s.pods pod ≡ Some p → failing_pod s pod p plan ≡ Some f → PlanSays s pod plan f
pod_tells faults only agreed s pod plan p f e g =
    let at = failing_at s (wanted s p.pod.object) plan.node plan.grants in
    let P = PlanSays s pod plan f in
    either_by (changed s pod p plan) (or_else (claim_full s pod plan.known.claims) at) f P g
    (λ h. either_by (pod_changed pod p plan) (claim_changed s plan.known.claims) f P h (pod_says s pod p plan f (eqb p.pod.uid plan.known.pod) e refl) (λ same k. changed_says s pod plan f k))
    (λ same h. either_by (claim_full s pod plan.known.claims) at f P h (full_says s pod plan f)
    (λ room k. plan_by s pod plan p f e (grants_say faults only agreed s (wanted s p.pod.object) plan.node plan.grants f k)))

for_tells : (faults : FaultLaw) (only : OnlyLaw) (agreed : AgreedLaw) (s : State) (pod : Key) (plan : Plan) (f : Failure) (o : Option PodState) → at_key s.pods pod ≡ o → failing_for s pod o plan ≡ Some f → PlanSays s pod plan f
for_tells faults only agreed s pod plan f None e g = other_pod s pod plan f None e tt (some_is (failure.ClaimChanged pod) f g)
for_tells faults only agreed s pod plan f (Some p) e g = pod_tells faults only agreed s pod plan p f e g

pub plan_says : (faults : FaultLaw) (only : OnlyLaw) (agreed : AgreedLaw) (s : State) (pod : Key) (plan : Plan) (f : Failure) → failing s pod plan ≡ Some f → PlanSays s pod plan f
unfolding failing
plan_says faults only agreed s pod plan f e =
    either_by (claim_gone s plan.known.claims) (failing_for s pod (at_key s.pods pod) plan) f (PlanSays s pod plan f) e
    (gone_says s pod plan f) (λ there g. for_tells faults only agreed s pod plan f (at_key s.pods pod) refl g)

-- ---- status writes

pub status_says : (faults : FaultLaw) (only : OnlyLaw) (agreed : AgreedLaw) (s : State) (claim : Key) (status : ClaimStatus) (c : ClaimState) (f : Failure) → at_key s.claims claim ≡ Some c → failing_status s claim status ≡ Some f
    → GrantsSay s (record c.claim.object { key = claim } ∷ []) status.node (granted_by claim status ∷ []) f
unfolding failing_status
status_says faults only agreed s claim status c f e g =
    grants_say faults only agreed s (record c.claim.object { key = claim } ∷ []) status.node (granted_by claim status ∷ []) f (sym (ap (failing_write s claim status) e) ∙ g)
