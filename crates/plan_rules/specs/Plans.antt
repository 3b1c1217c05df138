-- When a plan and a verdict are true.
use Rattle.std.specs.Prelude.{ℕ, ◌≡◌, true, not, List, None, Some, Contains, All, find, map, take_while}
use Rattle.std.specs.Map.{keys_of}
use Rattle.walk.specs.Walk.{Item, Full}
use Rattle.walk.specs.Outcome.{Ended, ends}
use Rattle.object_fields.specs.declared.key.Key.{Key}
use Rattle.api_cluster.specs.declared.types.Pod.{Pod}
use Rattle.pool_view.specs.Names.{at_key, text_eq}
use Rattle.cluster.specs.declared.plan.Cause.{Cause}
use Rattle.cluster.specs.declared.plan.Cause.TheVariants as cause
use Rattle.cluster.specs.declared.plan.Passed.{Passed}
use Rattle.cluster.specs.declared.plan.Plan.{Plan}
use Rattle.cluster.specs.declared.plan.Reason.{Reason}
use Rattle.cluster.specs.declared.plan.Reason.TheVariants as reason
use Rattle.cluster.specs.declared.plan.Verdict.{Verdict}
use Rattle.cluster.specs.declared.state.Phase.TheVariants.{Idle}
use Rattle.cluster.specs.declared.state.PodState.{PodState}
use Rattle.cluster.specs.declared.state.State.{State}
use Rattle.cluster.specs.Claims.{known_of}
use Rattle.cluster.specs.State.{claims_of, may_use}
use Rattle.allocations.specs.Claims.{full_claim, joined, missing_claim, other_claim, wanted}
use Rattle.allocations.specs.Input.{grants_at, input_for, outcome_on, walk_on}
use Rattle.allocations.specs.Allocation.{IsAllocation}
use Rattle.allocations.specs.Outcomes.{FindsNone, IsBudget, IsFault, IsUnsat}

-- ---- causes

abbrev pub CauseTrue : State → Pod → List ℕ → Cause → Type 0
CauseTrue s pod node cause.Unsat = IsUnsat s pod node
CauseTrue s pod node (cause.Fault fault) = (budget : ℕ) × IsFault s pod budget node fault
CauseTrue s pod node (cause.Budget budget) = IsBudget s pod budget node
CauseTrue s pod node (cause.Other claim) = other_claim s pod node ≡ Some claim

-- the cause is what a search within the budget shows
abbrev pub CauseBy : State → Pod → ℕ → List ℕ → Cause → Type 0
CauseBy s pod budget node cause.Unsat = FindsNone s pod budget node
CauseBy s pod budget node (cause.Fault fault) = IsFault s pod budget node fault
CauseBy s pod budget node (cause.Budget steps) = (steps ≡ budget) × IsBudget s pod budget node
CauseBy s pod budget node (cause.Other claim) = other_claim s pod node ≡ Some claim

abbrev pub nodes_of : List Passed → List (List ℕ)
nodes_of ps = map (λ p. p.node) ps

-- the names before this one
abbrev pub names_before : List ℕ → List (List ℕ) → List (List ℕ)
names_before node names = take_while (λ n. not (text_eq n node)) names

-- ---- plans

-- the pod is there, and Idle
pub record IsIdle (s : State) (pod : Key) (state : PodState) : Type 0 where
  pub there : at_key s.pods pod ≡ Some state
  pub idle : state.phase ≡ Idle

-- each claim of the pod is there, and has room for it
pub record MaySearch (s : State) (pod : Key) (state : PodState) : Type 0 where
  pub idle : IsIdle s pod state
  pub there : missing_claim s state.pod.object ≡ None
  pub room : full_claim s pod state.pod.object ≡ None

-- The plan is true of the state at its index: it takes the first node by name that has an
-- allocation, and grants the first one that the walk of that node reaches.
pub record PlanTrue (s : State) (pod : Key) (plan : Plan) : Type 0 where
  pub state : PodState
  pub may_search : MaySearch s pod state
  pub node_known : Contains (keys_of s.inventory.nodes) plan.node
  pub passed : nodes_of plan.passed ≡ names_before plan.node (keys_of s.inventory.nodes)
  pub causes : All (λ p. CauseTrue s state.pod.object p.node p.cause) plan.passed
  -- each claim with a grant has it on the plan's node
  pub here : other_claim s state.pod.object plan.node ≡ None
  pub item : Item
  pub first : find ends (walk_on s state.pod.object plan.node) ≡ Some item
  pub full : item.mark ≡ Full
  pub grants : plan.grants ≡ grants_at (input_for s state.pod.object plan.node) item
  pub joins : plan.joins ≡ joined s state.pod.object
  pub known : plan.known ≡ known_of s state

-- the plan is what searches within the budget find
pub record PlanBy (s : State) (pod : Key) (budget : ℕ) (plan : Plan) : Type 0 where
  pub state : PodState
  pub there : at_key s.pods pod ≡ Some state
  pub causes : All (λ p. CauseBy s state.pod.object budget p.node p.cause) plan.passed
  pub item : Item
  pub found : outcome_on s state.pod.object plan.node budget ≡ Ended item
  pub full : item.mark ≡ Full

-- The plan holds at this state: the pod and its claims are those that the plan
-- knew, and the grants are an allocation.
pub record Holds (s : State) (pod : Key) (plan : Plan) : Type 0 where
  pub state : PodState
  pub idle : IsIdle s pod state
  pub known : plan.known ≡ known_of s state
  -- each of the claims is there, and has fewer users than it may have, or the pod is one of them
  pub there : missing_claim s state.pod.object ≡ None
  pub users : All (λ k. may_use pod (at_key s.claims k) ≡ true) (claims_of state)
  -- the claims with a grant have it on the plan's node, and are joined
  pub here : other_claim s state.pod.object plan.node ≡ None
  pub joins : plan.joins ≡ joined s state.pod.object
  pub choice : List ℕ
  pub allocation : IsAllocation s (wanted s state.pod.object) plan.node choice plan.grants

-- ---- verdicts

-- none of the pod's claims is missing, and this is the first without room for it
pub record IsFirstFull (s : State) (pod : Key) (state : PodState) (claim : Key) : Type 0 where
  pub there : missing_claim s state.pod.object ≡ None
  pub full : full_claim s pod state.pod.object ≡ Some claim

-- each claim is there and has room for the pod, and each node has a true cause
pub record NodesTrue (s : State) (pod : Key) (state : PodState) (nodes : List Passed) : Type 0 where
  pub there : missing_claim s state.pod.object ≡ None
  pub room : full_claim s pod state.pod.object ≡ None
  pub all : nodes_of nodes ≡ keys_of s.inventory.nodes
  pub causes : All (λ p. CauseTrue s state.pod.object p.node p.cause) nodes

abbrev pub ReasonTrue : State → Key → PodState → Reason → Type 0
ReasonTrue s pod state (reason.Missing claim) = missing_claim s state.pod.object ≡ Some claim
ReasonTrue s pod state (reason.Users claim) = IsFirstFull s pod state claim
ReasonTrue s pod state (reason.Nodes nodes) = NodesTrue s pod state nodes

-- the verdict is true of the state at its index
pub record VerdictTrue (s : State) (pod : Key) (verdict : Verdict) : Type 0 where
  pub state : PodState
  pub idle : IsIdle s pod state
  pub reason : ReasonTrue s pod state verdict.reason

abbrev pub ReasonBy : State → Pod → ℕ → Reason → Type 0
ReasonBy s pod budget (reason.Missing claim) = Unit {0}
ReasonBy s pod budget (reason.Users claim) = Unit {0}
ReasonBy s pod budget (reason.Nodes nodes) = All (λ p. CauseBy s pod budget p.node p.cause) nodes

-- the verdict is what searches within the budget show
pub record VerdictBy (s : State) (pod : Key) (budget : ℕ) (verdict : Verdict) : Type 0 where
  pub state : PodState
  pub there : at_key s.pods pod ≡ Some state
  pub reason : ReasonBy s state.pod.object budget verdict.reason
