-- What holds for the grants and the verdicts of a legal history.
use Rattle.std.specs.Prelude.{ℕ, ◌≡◌, ◌≢◌, ◌≤◌, ◌<◌, false, List, [], ◌∷◌, None, Some, Contains, length, take}
use Rattle.std.specs.Map.{keys_of}
use Rattle.walk.specs.Walk.{Item, Part}
use Rattle.object_fields.specs.declared.key.Key.{Key}
use Rattle.api_claim.specs.declared.types.ClaimStatus.{ClaimStatus}
use Rattle.api_cluster.specs.declared.types.Pod.{Pod}
use Rattle.cluster.specs.declared.state.ClaimState.{ClaimState}
use Rattle.cluster.specs.declared.state.Granted.{Granted}
use Rattle.cluster.specs.declared.state.Phase.TheVariants.{Idle}
use Rattle.cluster.specs.declared.state.PodState.{PodState}
use Rattle.cluster.specs.declared.state.State.{State}
use Rattle.cluster.specs.declared.plan.Cause.TheVariants.{Unsat, Fault, Budget, Other}
use Rattle.cluster.specs.declared.plan.Grant.{Grant}
use Rattle.cluster.specs.declared.plan.Passed.{Passed}
use Rattle.cluster.specs.declared.plan.Plan.{Plan}
use Rattle.cluster.specs.declared.plan.Reason.{Reason}
use Rattle.cluster.specs.declared.plan.Reason.TheVariants as reason
use Rattle.cluster.specs.declared.plan.SelectorFault.{SelectorFault}
use Rattle.cluster.specs.declared.plan.Verdict.{Verdict}
use Rattle.cluster.specs.VerdictGiven.{is_budget, is_fault, has_budget, has_fault}
use Rattle.cluster.specs.State.{most_users}
use Rattle.pool_view.specs.Names.{at_key}
use Rattle.allocations.specs.Claims.{joined, keys_of_pod, missing_claim, full_claim, other_claim, wanted}
use Rattle.allocations.specs.Input.{walk_on}
use Rattle.allocations.specs.Allocation.{IsAllocation}
use Rattle.allocations.specs.Outcomes.{IsFault}
use Rattle.plan_rules.specs.Plans.{nodes_of}
use Rattle.plan_rules.specs.Failing.{granted_by}
use Rattle.cluster.specs.declared.entry.Entry.{Entry}
use Rattle.cluster.specs.History.{state_at, state_of}

-- The plan's grants are an allocation for the pod on the plan's node, in the state after these entries: one of its
-- claims without a grant, where each claim with one has it on that node, and those are what the plan joins.
pub record IsGrantOf (before : List Entry) (pod : Key) (plan : Plan) : Type 0 where
  pub state : PodState
  pub there : at_key (state_of before).pods pod ≡ Some state
  pub here : other_claim (state_of before) state.pod.object plan.node ≡ None
  pub joins : plan.joins ≡ joined (state_of before) state.pod.object
  pub choice : List ℕ
  pub allocation : IsAllocation (state_of before) (wanted (state_of before) state.pod.object) plan.node choice plan.grants

-- The status's grant is an allocation of the claim, which is there without a grant, in the state after these entries.
pub record IsAdoptionOf (before : List Entry) (claim : Key) (status : ClaimStatus) : Type 0 where
  pub state : ClaimState
  pub there : at_key (state_of before).claims claim ≡ Some state
  pub free : state.grant ≡ None
  pub choice : List ℕ
  pub allocation : IsAllocation (state_of before) (record state.claim.object { key = claim } ∷ []) status.node choice (granted_by claim status ∷ [])

-- ---- what causes say

-- no choice and grants are an allocation of the pod's claims without a grant on the node
abbrev pub HasNone : State → Pod → List ℕ → Type 0
HasNone s pod node = (choice : List ℕ) (grants : List Grant) → IsAllocation s (wanted s pod) node choice grants → ⊥

-- the walk of the node has more items than the search looked at, and those are neither `Full` nor `Fault`
pub record IsOverBudget (s : State) (pod : Pod) (node : List ℕ) (steps : ℕ) : Type 0 where
  pub here : other_claim s pod node ≡ None
  pub more : steps < length (walk_on s pod node)
  pub parts : (x : Item) → Contains (take steps (walk_on s pod node)) x → x.mark ≡ Part

-- the claim is one of the pod's, and has its grant on another node
pub record IsElsewhere (s : State) (pod : Pod) (node : List ℕ) (claim : Key) : Type 0 where
  pub first : other_claim s pod node ≡ Some claim
  pub own : Contains (keys_of_pod pod) claim
  pub state : ClaimState
  pub there : at_key s.claims claim ≡ Some state
  pub grant : Granted
  pub granted : state.grant ≡ Some grant
  pub off : grant.node ≢ node

-- ---- what reasons say

-- the claim is the first of the pod's that isn't there
pub record IsMissing (s : State) (pod : Pod) (claim : Key) : Type 0 where
  pub first : missing_claim s pod ≡ Some claim
  pub own : Contains (keys_of_pod pod) claim
  pub absent : at_key s.claims claim ≡ None

-- each of the pod's claims is there, and this is the first that has as many users as it may have, the pod not among them
pub record IsCrowded (s : State) (key : Key) (pod : Pod) (claim : Key) : Type 0 where
  pub all_there : missing_claim s pod ≡ None
  pub first : full_claim s key pod ≡ Some claim
  pub own : Contains (keys_of_pod pod) claim
  pub state : ClaimState
  pub there : at_key s.claims claim ≡ Some state
  pub full : most_users ≤ length state.users
  pub not_among : at_key state.users key ≡ None

-- The nodes are all that there are, and none of them can be taken, each by its cause.
pub record NoneTaken (s : State) (pod : Pod) (nodes : List Passed) : Type 0 where
  pub every : nodes_of nodes ≡ keys_of s.inventory.nodes
  -- a node whose cause is that it has no allocation has none
  pub unsat : (p : Passed) → Contains nodes p → p.cause ≡ Unsat → HasNone s pod p.node
  pub fault : (p : Passed) (fault : SelectorFault) → Contains nodes p → p.cause ≡ Fault fault → (steps : ℕ) × IsFault s pod steps p.node fault
  pub budget : (p : Passed) (steps : ℕ) → Contains nodes p → p.cause ≡ Budget steps → IsOverBudget s pod p.node steps
  pub other : (p : Passed) (claim : Key) → Contains nodes p → p.cause ≡ Other claim → IsElsewhere s pod p.node claim
  -- a node whose cause is neither `Fault` nor `Budget` has no allocation for the pod
  pub clear : (p : Passed) → Contains nodes p → is_fault p.cause ≡ false → is_budget p.cause ≡ false → other_claim s pod p.node ≡ None → HasNone s pod p.node
  -- where each cause is that the node has no allocation, no node has one
  pub none : ((p : Passed) → Contains nodes p → p.cause ≡ Unsat) → (node : List ℕ) → HasNone s pod node
  -- if no cause is `Fault` or `Budget`, which is `unsatisfiable`, no node has an allocation for the pod
  pub unsatisfiable : has_fault nodes ≡ false → has_budget nodes ≡ false → (node : List ℕ) → other_claim s pod node ≡ None → HasNone s pod node

abbrev pub IsReasonOf : State → Key → Pod → Reason → Type 0
IsReasonOf s key pod (reason.Missing claim) = IsMissing s pod claim
IsReasonOf s key pod (reason.Users claim) = IsCrowded s key pod claim
IsReasonOf s key pod (reason.Nodes nodes) = NoneTaken s pod nodes

-- At the verdict's index among these entries the pod was there and Idle, and its reason was true.
pub record IsVerdictOf (before : List Entry) (pod : Key) (verdict : Verdict) : Type 0 where
  pub at : verdict.at ≤ length before
  pub state : PodState
  pub there : at_key (state_at before verdict.at).pods pod ≡ Some state
  pub idle : state.phase ≡ Idle
  pub reason : IsReasonOf (state_at before verdict.at) pod state.pod.object verdict.reason
