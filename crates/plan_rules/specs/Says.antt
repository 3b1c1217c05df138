-- What each failure means.
use Rattle.std.specs.Prelude.{ℕ, ◌<◌, ◌≡◌, ◌≢◌, ◌⊎◌, ◌&&◌, List, false, Option, None, Some, Contains, map, slice_get}
use Rattle.object_fields.specs.declared.key.DeviceId.{DeviceId}
use Rattle.object_fields.specs.declared.key.Key.{Key}
use Rattle.api_claim.specs.declared.types.DeviceConstraint.{DeviceConstraint}
use Rattle.api_claim.specs.declared.types.ResourceClaim.{ResourceClaim}
use Rattle.constraints.specs.Keeping.{KeepsConstraint}
use Rattle.request_rules.specs.Draws.{Draw}
use Rattle.device_taints.specs.Tolerating.{IsTolerated}
use Rattle.device_taints.specs.declared.types.Taint.{Taint}
use Rattle.pool_view.specs.declared.matching.Match.TheVariants.{No}
use Rattle.pool_view.specs.Names.{at_key, at_name, key_eq}
use Rattle.pool_view.specs.Pools.{Offered, id_in}
use Rattle.cluster.specs.Claims.{known_claim}
use Rattle.cluster.specs.State.{may_use}
use Rattle.cluster.specs.declared.failure.Failure.{Failure}
use Rattle.cluster.specs.declared.failure.Failure.TheVariants as failure
use Rattle.cluster.specs.declared.failure.Shortfall.{Shortfall}
use Rattle.cluster.specs.declared.plan.DeviceResult.{DeviceResult}
use Rattle.cluster.specs.declared.plan.Grant.{Grant}
use Rattle.cluster.specs.declared.plan.KnownClaim.{KnownClaim}
use Rattle.cluster.specs.declared.plan.Plan.{Plan}
use Rattle.cluster.specs.declared.state.ClaimState.{ClaimState}
use Rattle.cluster.specs.declared.state.PodState.{PodState}
use Rattle.cluster.specs.declared.state.State.{State}
use Rattle.allocations.specs.Claims.{wanted}
use Rattle.allocations.specs.Input.{input_of}
use Rattle.request_rules.specs.Asked.{match_at}
use Rattle.request_rules.specs.Faults.{FaultPlace, IsFirstFault}
use Rattle.request_rules.specs.Input.{SearchInput}
use Rattle.request_rules.specs.Joining.{seen_all}
use Rattle.request_rules.specs.Rules.{Pick, device_draws, total}
use Rattle.plan_rules.specs.Chosen.{Due, choice_of, dues, picks_of, place_of}
use Rattle.plan_rules.specs.Shaped.{is_shaped}

-- ---- the pod and its claims

-- the plan knew the claim, which doesn't exist
pub record IsGone (s : State) (plan : Plan) (claim : Key) : Type 0 where
  pub known : Contains (map (λ k. k.claim) plan.known.claims) claim
  pub gone : at_key s.claims claim ≡ None

-- the pod doesn't exist, or has another uid
abbrev pub PodIsChanged : Plan → Option PodState → Type 0
PodIsChanged plan None = Unit {0}
PodIsChanged plan (Some p) = p.pod.uid ≢ plan.known.pod

-- the claim exists, but isn't as the plan knew it
pub record ClaimIsChanged (s : State) (plan : Plan) (claim : Key) : Type 0 where
  pub knew : KnownClaim
  pub known : Contains plan.known.claims knew
  pub claim_is : knew.claim ≡ claim
  pub state : ClaimState
  pub there : at_key s.claims claim ≡ Some state
  pub other : known_claim claim state ≢ knew

-- the pod, or else a claim that the plan knew, is another
abbrev pub IsChanged : State → Key → Plan → Key → Type 0
IsChanged s pod plan claim = ((claim ≡ pod) × PodIsChanged plan (at_key s.pods pod)) ⊎ ClaimIsChanged s plan claim

-- the plan knew the claim, which has no room for the pod
pub record IsFull (s : State) (pod : Key) (plan : Plan) (claim : Key) : Type 0 where
  pub known : Contains (map (λ k. k.claim) plan.known.claims) claim
  pub full : may_use pod (at_key s.claims claim) ≡ false

-- ---- the node

-- it is the node of the grants, and doesn't exist
pub record NodeIsGone (s : State) (node gone : List ℕ) : Type 0 where
  pub is : gone ≡ node
  pub none : at_name s.inventory.nodes node ≡ None

-- ---- the grants

-- one of the grants has the device
pub record IsGranted (grants : List Grant) (device : DeviceId) : Type 0 where
  pub grant : Grant
  pub granted : Contains grants grant
  pub result : DeviceResult
  pub listed : Contains grant.results result
  pub device_is : result.device ≡ device

-- the grants have the device, which isn't one of the node's
pub record DeviceIsGone (w : SearchInput) (grants : List Grant) (device : DeviceId) : Type 0 where
  pub granted : IsGranted grants device
  pub gone : (o : Offered) → Contains w.devices o → id_in o ≢ device

-- At an index a claim has no grant, or another's, or one whose results aren't of the shape that it asks for;
-- or a grant has no claim.
abbrev pub IsMisgranted : SearchInput → ℕ → Option ResourceClaim → Option Grant → Key → Type 0
IsMisgranted w i None None claim = ⊥
IsMisgranted w i None (Some g) claim = g.claim ≡ claim
IsMisgranted w i (Some c) None claim = c.key ≡ claim
IsMisgranted w i (Some c) (Some g) claim = (c.key ≡ claim) × ((key_eq g.claim c.key && is_shaped w i c g.results) ≡ false)

pub record IsMisshapen (w : SearchInput) (grants : List Grant) (claim : Key) : Type 0 where
  pub place : ℕ
  pub misgranted : IsMisgranted w place (slice_get w.claims place) (slice_get grants place) claim

-- a result, of the device, whose request its selectors don't admit
pub record IsUnmet (w : SearchInput) (grants : List Grant) (device : DeviceId) : Type 0 where
  pub due : Due
  pub granted : Contains (dues w grants) due
  pub device_is : due.result.device ≡ device
  pub unmet : match_at w due.asked.ask (place_of w due.result) ≡ No

-- a chosen request is the first with an evaluation error, on this device first
pub record IsFaulted (w : SearchInput) (grants : List Grant) (device : DeviceId) : Type 0 where
  pub fault : FaultPlace
  pub first : IsFirstFault w (choice_of w grants) fault
  pub device_is : fault.device ≡ device

-- the device is granted for a request that doesn't tolerate one of its taints
pub record IsTainted (w : SearchInput) (grants : List Grant) (device : DeviceId) : Type 0 where
  pub due : Due
  pub granted : Contains (dues w grants) due
  pub device_is : due.result.device ≡ device
  pub offered : Offered
  pub on_node : slice_get w.devices (place_of w due.result) ≡ Some offered
  pub taint : Taint
  pub has : Contains offered.device.taints taint
  pub untolerated : IsTolerated due.asked.ask.tolerations taint → ⊥

-- a grant of the claim has the device without admin access
pub record IsGiven (grants : List Grant) (device : DeviceId) (claim : Key) : Type 0 where
  pub grant : Grant
  pub granted : Contains grants grant
  pub claim_is : grant.claim ≡ claim
  pub result : DeviceResult
  pub listed : Contains grant.results result
  pub device_is : result.device ≡ device
  pub admin : result.admin ≡ false

-- the grants have the device, which the claim holds, or is granted too
pub record IsHeld (w : SearchInput) (grants : List Grant) (device : DeviceId) (claim : Key) : Type 0 where
  pub granted : IsGranted grants device
  pub by_claim : Contains w.held (device, claim) ⊎ IsGiven grants device claim

-- there is no value, or it is below the number
abbrev pub IsBelow : Option ℕ → ℕ → Type 0
IsBelow None n = Unit {0}
IsBelow (Some value) n = value < n

-- a result without admin access draws on the counter, from which more is drawn with all results than it has
pub record IsShort (w : SearchInput) (grants : List Grant) (c : Shortfall) : Type 0 where
  pub pick : Pick
  pub granted : Contains (picks_of w grants) pick
  pub admin : pick.label.admin ≡ false
  pub draw : Draw
  pub drawn_on : Contains (device_draws w pick) draw
  pub set_is : c.set ≡ draw.counter.set
  pub counter_is : c.counter ≡ draw.counter.counter
  pub drawn_is : c.drawn ≡ total w draw.counter (picks_of w grants)
  pub value_is : c.value ≡ w.value draw.counter
  pub short : IsBelow c.value c.drawn

-- the claim, at its index `place`, has a constraint at `index`, which its results don't keep
pub record IsBroken (w : SearchInput) (grants : List Grant) (claim : Key) (index : ℕ) : Type 0 where
  pub place : ℕ
  pub wanted : ResourceClaim
  pub wanted_is : slice_get w.claims place ≡ Some wanted
  pub claim_is : wanted.key ≡ claim
  pub constraint : DeviceConstraint
  pub constraint_is : slice_get wanted.constraints index ≡ Some constraint
  pub broken : KeepsConstraint constraint (seen_all w (record { claim = place; constraint = constraint }) (picks_of w grants)) → ⊥

-- ---- failures

-- what a failure means for grants of these claims on a node
abbrev pub GrantsSay : State → List ResourceClaim → List ℕ → List Grant → Failure → Type 0
GrantsSay s claims node grants (failure.ClaimGone k) = ⊥
GrantsSay s claims node grants (failure.ClaimChanged k) = ⊥
GrantsSay s claims node grants (failure.Users k) = ⊥
GrantsSay s claims node grants (failure.NodeGone name) = NodeIsGone s node name
GrantsSay s claims node grants (failure.DeviceGone d) = DeviceIsGone (input_of s claims node) grants d
GrantsSay s claims node grants (failure.Shape k) = IsMisshapen (input_of s claims node) grants k
GrantsSay s claims node grants (failure.SelectorNo d) = IsUnmet (input_of s claims node) grants d
GrantsSay s claims node grants (failure.SelectorFault d) = IsFaulted (input_of s claims node) grants d
GrantsSay s claims node grants (failure.Tainted d) = IsTainted (input_of s claims node) grants d
GrantsSay s claims node grants (failure.Held d k) = IsHeld (input_of s claims node) grants d k
GrantsSay s claims node grants (failure.Counter c) = IsShort (input_of s claims node) grants c
GrantsSay s claims node grants (failure.Constraint k n) = IsBroken (input_of s claims node) grants k n

-- the pod exists, and the failure holds of the grants of the claims that it needs
pub record PodSays (s : State) (pod : Key) (plan : Plan) (f : Failure) : Type 0 where
  pub state : PodState
  pub there : at_key s.pods pod ≡ Some state
  pub says : GrantsSay s (wanted s state.pod.object) plan.node plan.grants f

-- what a failure means for a plan
abbrev pub PlanSays : State → Key → Plan → Failure → Type 0
PlanSays s pod plan (failure.ClaimGone k) = IsGone s plan k
PlanSays s pod plan (failure.ClaimChanged k) = IsChanged s pod plan k
PlanSays s pod plan (failure.Users k) = IsFull s pod plan k
PlanSays s pod plan (failure.NodeGone name) = PodSays s pod plan (failure.NodeGone name)
PlanSays s pod plan (failure.DeviceGone d) = PodSays s pod plan (failure.DeviceGone d)
PlanSays s pod plan (failure.Shape k) = PodSays s pod plan (failure.Shape k)
PlanSays s pod plan (failure.SelectorNo d) = PodSays s pod plan (failure.SelectorNo d)
PlanSays s pod plan (failure.SelectorFault d) = PodSays s pod plan (failure.SelectorFault d)
PlanSays s pod plan (failure.Tainted d) = PodSays s pod plan (failure.Tainted d)
PlanSays s pod plan (failure.Held d k) = PodSays s pod plan (failure.Held d k)
PlanSays s pod plan (failure.Counter c) = PodSays s pod plan (failure.Counter c)
PlanSays s pod plan (failure.Constraint k n) = PodSays s pod plan (failure.Constraint k n)
