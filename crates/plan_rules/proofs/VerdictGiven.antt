-- What holds in a state in which a plan, or a status write, has no failure.
use Rattle.std.proofs.Common.{ℕ, ◌≡◌, List, [], ◌∷◌, Bool, true, false, not, cond, eqb, Option, None, Some, find, refl, sym, ap, ◌∙◌, subst}
use Rattle.std.specs.Option.{is_none, option_map, IsSome}
use Rattle.object_fields.specs.declared.key.Key.{Key}
use Rattle.api_claim.specs.declared.types.ClaimStatus.{ClaimStatus}
use Rattle.api_claim.specs.declared.types.ResourceClaim.{ResourceClaim}
use Rattle.pool_view.specs.Names.{at_key, at_name}
use Rattle.cluster.specs.State.{may_use}
use Rattle.cluster.specs.declared.failure.Failure.{Failure}
use Rattle.cluster.specs.declared.failure.Failure.TheVariants as failure
use Rattle.cluster.specs.declared.plan.Grant.{Grant}
use Rattle.cluster.specs.declared.plan.KnownClaim.{KnownClaim}
use Rattle.cluster.specs.declared.plan.Plan.{Plan}
use Rattle.cluster.specs.declared.state.ClaimState.{ClaimState}
use Rattle.cluster.specs.declared.state.Granted.{Granted}
use Rattle.cluster.specs.declared.state.PodState.{PodState}
use Rattle.cluster.specs.declared.state.State.{State}
use Rattle.allocations.specs.Allocation.{IsAllocation}
use Rattle.allocations.specs.Claims.{wanted}
use Rattle.allocations.specs.Input.{input_of}
use Rattle.request_rules.specs.Lists.{or_else}
use Rattle.plan_rules.specs.Chosen.{choice_of}
use Rattle.plan_rules.specs.Failing.{failing, failing_at, failing_for, failing_in, failing_pod, failing_status, failing_write, granted_by, node_gone}
use Rattle.plan_rules.specs.Fits.{FitsPod, IsAsKnown}
use Rattle.plan_rules.specs.Known.{changed, claim_changed, claim_full, claim_gone, is_changed, is_full, is_gone, is_known, is_other, pod_changed, same_node}
use Rattle.plan_rules.proofs.Allocated.{KeepLaw, allocation_of}
use Rattle.plan_rules.proofs.Elements.{found_none, get-from_contains}
use Rattle.plan_rules.proofs.Tolerating.{FitLaw}
use Rattle.plan_rules.proofs.Tests.{both_none, cond_parts, is_true, left_of, no_image, number_is, right_of, same_from_text_eq}

-- ---- the node and the grants

there_by : {X : Type 0} (o : Option X) → is_none o ≡ false → IsSome o
there_by None e = absurd (cc)
there_by (Some x) e = refl

unless : (b : Bool) (f : Failure) → cond b (Some f) None ≡ None → b ≡ false
unless true f e = absurd (cc)
unless false f e = refl

pub allocation_at : (law : KeepLaw) (fit : FitLaw) (s : State) (claims : List ResourceClaim) (node : List ℕ) (grants : List Grant) → failing_at s claims node grants ≡ None → (choice : List ℕ) × IsAllocation s claims node choice grants
unfolding failing_at
allocation_at law fit s claims node grants e =
    let p = both_none (node_gone s node) (failing_in (input_of s claims node) grants) e in
    let r = allocation_of law fit (input_of s claims node) grants p.1 in (
      choice_of (input_of s claims node) grants,
      record {
        node_known = there_by (at_name s.inventory.nodes node) (unless (is_none (at_name s.inventory.nodes node)) (failure.NodeGone node) p.0);
        results = r.0;
        meant = r.1;
        cut = r.2;
      },
    )

-- ---- plans

-- no failure of a plan, kind by kind
record Unfailing (s : State) (pod : Key) (p : PodState) (plan : Plan) : Type 0 where
  gone : claim_gone s plan.known.claims ≡ None
  uid : pod_changed pod p plan ≡ None
  changed : claim_changed s plan.known.claims ≡ None
  full : claim_full s pod plan.known.claims ≡ None
  grants : failing_at s (wanted s p.pod.object) plan.node plan.grants ≡ None

unfailing_by : (s : State) (pod : Key) (p : PodState) (plan : Plan) → claim_gone s plan.known.claims ≡ None → failing_pod s pod p plan ≡ None → Unfailing s pod p plan
unfailing_by s pod p plan gone e =
    let at = failing_at s (wanted s p.pod.object) plan.node plan.grants in
    let one = both_none (changed s pod p plan) (or_else (claim_full s pod plan.known.claims) at) e in
    let two = both_none (pod_changed pod p plan) (claim_changed s plan.known.claims) one.0 in
    let three = both_none (claim_full s pod plan.known.claims) at one.1 in
    record { gone = gone; uid = two.0; changed = two.1; full = three.0; grants = three.1 }

unfailing_for : (s : State) (pod : Key) (plan : Plan) (o : Option PodState) → at_key s.pods pod ≡ o → claim_gone s plan.known.claims ≡ None → failing_for s pod o plan ≡ None → (p : PodState) × (at_key s.pods pod ≡ Some p) × Unfailing s pod p plan
unfailing_for s pod plan None e gone f = absurd (cc)
unfailing_for s pod plan (Some p) e gone f = (p, e, unfailing_by s pod p plan gone f)

unfailing : (s : State) (pod : Key) (plan : Plan) → failing s pod plan ≡ None → (p : PodState) × (at_key s.pods pod ≡ Some p) × Unfailing s pod p plan
unfolding failing
unfailing s pod plan e =
    let p = both_none (claim_gone s plan.known.claims) (failing_for s pod (at_key s.pods pod) plan) e in
    unfailing_for s pod plan (at_key s.pods pod) refl p.0 p.1

same_pod : (s : State) (pod : Key) (p q : PodState) → at_key s.pods pod ≡ Some p → at_key s.pods pod ≡ Some q → p ≡ q
same_pod s pod p q e f = cc

pub plan_allocates : (law : KeepLaw) (fit : FitLaw) (s : State) (pod : Key) (plan : Plan) (p : PodState) → at_key s.pods pod ≡ Some p → failing s pod plan ≡ None
    → (choice : List ℕ) × IsAllocation s (wanted s p.pod.object) plan.node choice plan.grants
plan_allocates law fit s pod plan p e f =
    let r = unfailing s pod plan f in
    let g = subst (λ (q : PodState). failing_at s (wanted s q.pod.object) plan.node plan.grants ≡ None) (same_pod s pod r.0 p r.1 e) r.2.grants in
    allocation_at law fit s (wanted s p.pod.object) plan.node plan.grants g

-- ---- what the plan knew

node_by : (g : Option Granted) (node : Option (List ℕ)) → same_node g node ≡ true → option_map (λ (g : Granted). g.node) g ≡ node
node_by None None e = refl
node_by None (Some n) e = absurd (cc)
node_by (Some g) None e = absurd (cc)
node_by (Some g) (Some n) e = ap (λ (z : List ℕ). Some z) (same_from_text_eq g.node n e)

as_known : (s : State) (pod : Key) (k : KnownClaim) (o : Option ClaimState) → at_key s.claims k.claim ≡ o → is_none o ≡ false → is_other k o ≡ false → not (may_use pod o) ≡ false → IsAsKnown s pod k
as_known s pod k None e a b c = absurd (cc)
as_known s pod k (Some c) e a b r =
    let same = is_true (is_known k c) b in
    record {
      state = c;
      there = e;
      uid = number_is c.claim.uid k.uid (left_of (eqb c.claim.uid k.uid) (same_node c.grant k.node) same);
      node = node_by c.grant k.node (right_of (eqb c.claim.uid k.uid) (same_node c.grant k.node) same);
      room = is_true (may_use pod (Some c)) r;
    }

uid_by : (b : Bool) (f : Failure) → cond b None (Some f) ≡ None → b ≡ true
uid_by b f e = (cond_parts b None f e).0

fits_by : (s : State) (pod : Key) (p : PodState) (plan : Plan) → at_key s.pods pod ≡ Some p → Unfailing s pod p plan → FitsPod s pod p plan
fits_by s pod p plan e u =
    let ks = plan.known.claims in
    let there = found_none (is_gone s) ks (no_image (λ (k : KnownClaim). failure.ClaimGone k.claim) (find (is_gone s) ks) u.gone) in
    let same = found_none (is_changed s) ks (no_image (λ (k : KnownClaim). failure.ClaimChanged k.claim) (find (is_changed s) ks) u.changed) in
    let room = found_none (is_full s pod) ks (no_image (λ (k : KnownClaim). failure.Users k.claim) (find (is_full s pod) ks) u.full) in
    record {
      there = e;
      uid = number_is p.pod.uid plan.known.pod (uid_by (eqb p.pod.uid plan.known.pod) (failure.ClaimChanged pod) u.uid);
      claims = λ k h.
          let g = get-from_contains ks k h in
          as_known s pod k (at_key s.claims k.claim) refl (there h.0 k g) (same h.0 k g) (room h.0 k g);
    }

pub plan_fits : (s : State) (pod : Key) (plan : Plan) → failing s pod plan ≡ None → (p : PodState) × FitsPod s pod p plan
plan_fits s pod plan e = let r = unfailing s pod plan e in (r.0, fits_by s pod r.0 plan r.1 r.2)

-- ---- status writes

pub status_allocates : (law : KeepLaw) (fit : FitLaw) (s : State) (claim : Key) (status : ClaimStatus) (c : ClaimState) → at_key s.claims claim ≡ Some c → failing_status s claim status ≡ None
    → (choice : List ℕ) × IsAllocation s (record c.claim.object { key = claim } ∷ []) status.node choice (granted_by claim status ∷ [])
unfolding failing_status
status_allocates law fit s claim status c e f =
    allocation_at law fit s (record c.claim.object { key = claim } ∷ []) status.node (granted_by claim status ∷ [])
    (sym (ap (failing_write s claim status) e) ∙ f)
