-- What holds of the pod and the claims that a plan without a failure knew.
use Rattle.std.specs.Prelude.{◌≡◌, ℕ, List, [], ◌∷◌, true, None, Some, All, Contains, option_map}
use Rattle.object_fields.specs.declared.key.Key.{Key}
use Rattle.api_claim.specs.declared.types.ClaimStatus.{ClaimStatus}
use Rattle.pool_view.specs.Names.{at_key}
use Rattle.cluster.specs.declared.plan.KnownClaim.{KnownClaim}
use Rattle.cluster.specs.declared.plan.Plan.{Plan}
use Rattle.cluster.specs.declared.state.ClaimState.{ClaimState}
use Rattle.cluster.specs.declared.state.Granted.{Granted}
use Rattle.cluster.specs.declared.state.PodState.{PodState}
use Rattle.cluster.specs.declared.state.State.{State}
use Rattle.cluster.specs.Claims.{known_of}
use Rattle.cluster.specs.State.{claims_of, may_use}
use Rattle.allocations.specs.Allocation.{IsAllocation}
use Rattle.allocations.specs.Claims.{joined, missing_claim, other_claim, wanted}
use Rattle.plan_rules.specs.Failing.{granted_by}

-- The claim exists as the plan knew it, with a grant if and only if it had one, on the node that was known, and
-- has room for the pod.
pub record IsAsKnown (s : State) (pod : Key) (k : KnownClaim) : Type 0 where
  pub state : ClaimState
  pub there : at_key s.claims k.claim ≡ Some state
  pub uid : state.claim.uid ≡ k.uid
  pub node : option_map (λ (g : Granted). g.node) state.grant ≡ k.node
  pub room : may_use pod (Some state) ≡ true

-- the pod exists with the uid that the plan knew, and each of the claims that it knew exists as it knew it
pub record FitsPod (s : State) (pod : Key) (p : PodState) (plan : Plan) : Type 0 where
  pub there : at_key s.pods pod ≡ Some p
  pub uid : p.pod.uid ≡ plan.known.pod
  pub claims : (k : KnownClaim) → Contains plan.known.claims k → IsAsKnown s pod k

-- The plan is of the pod and its claims as they are now: it knew them so, each claim exists and has room for the
-- pod, and those with a grant have it on the plan's node and are joined.
pub record IsOfPod (s : State) (pod : Key) (p : PodState) (plan : Plan) : Type 0 where
  pub there : at_key s.pods pod ≡ Some p
  pub known : plan.known ≡ known_of s p
  pub claims : missing_claim s p.pod.object ≡ None
  pub users : All (λ k. may_use pod (at_key s.claims k) ≡ true) (claims_of p)
  pub here : other_claim s p.pod.object plan.node ≡ None
  pub joins : plan.joins ≡ joined s p.pod.object

-- The plan is of a pod that it fits, and its grants are an allocation of the claims that the pod needs, on its node.
pub record IsAllocated (s : State) (pod : Key) (plan : Plan) : Type 0 where
  pub state : PodState
  pub fits : FitsPod s pod state plan
  pub choice : List ℕ
  pub allocation : IsAllocation s (wanted s state.pod.object) plan.node choice plan.grants

-- The results of the status are an allocation of the claim, on its node.
pub record IsStatusAllocated (s : State) (claim : Key) (c : ClaimState) (status : ClaimStatus) : Type 0 where
  pub choice : List ℕ
  pub allocation : IsAllocation s (record c.claim.object { key = claim } ∷ []) status.node choice (granted_by claim status ∷ [])
