-- What a Schedule comes to if no other job makes an entry before it has ended.
use Rattle.std.specs.Prelude.{ℕ, ◌≡◌, ◌&&◌, Bool, true, false, List, [], ◌∷◌, ◌++◌, Contains, Option, None, drop, find, is_none}
use Rattle.std.specs.List.{AllZip}
use Rattle.std.specs.Map.{keys_of}
use Rattle.walk.specs.Walk.{Mark, Part, Full, Fault}
use Rattle.walk.specs.Outcome.{Outcome, Ended, Unsat, Budget, is_full}
use Rattle.object_fields.specs.declared.key.Key.{Key}
use Rattle.api_cluster.specs.declared.types.Pod.{Pod}
use Rattle.cluster.specs.declared.entry.Entry.{Entry}
use Rattle.cluster.specs.declared.entry.Event.{Event}
use Rattle.cluster.specs.declared.entry.Event.TheVariants.{Reserved, Wrote, Bound, VerdictGiven}
use Rattle.cluster.specs.declared.plan.Passed.{Passed}
use Rattle.cluster.specs.declared.plan.Plan.{Plan}
use Rattle.cluster.specs.declared.plan.Reason.{Reason}
use Rattle.cluster.specs.declared.plan.Reason.TheVariants.{Nodes}
use Rattle.cluster.specs.declared.plan.Verdict.{Verdict}
use Rattle.cluster.specs.declared.state.PodState.{PodState}
use Rattle.cluster.specs.declared.state.State.{State}
use Rattle.cluster.specs.History.{state_at}
use Rattle.cluster.specs.State.{claims_of}
use Rattle.allocations.specs.Claims.{other_claim}
use Rattle.allocations.specs.Input.{outcome_on}
use Rattle.engine_ports.specs.declared.decision.Decision.{Decision}
use Rattle.engine_ports.specs.declared.decision.Decision.TheVariants.{Reserve, Judge}
use Rattle.engine_ports.specs.Decisions.{IsDecision, IsReserve}
use Rattle.plan_rules.specs.Plans.{IsIdle}
use Rattle.engine_ports.specs.Passed.{AllPassed}
use Rattle.histories.specs.Legal.{Legal}
use Rattle.commands.specs.declared.command.Command.TheVariants.{Schedule}
use Rattle.histories.specs.Alone.{Alone}
use Rattle.histories.specs.JobRuns.{Run, JobRun}

-- ---- which node is taken

-- the search ended at an allocation
abbrev pub finds : Outcome → Bool
finds (Ended item) = is_full item
finds Unsat = false
finds Budget = false

-- none of the pod's claims has its grant on another node, and a search of the node within the budget finds an allocation
abbrev pub fits : State → Pod → ℕ → List ℕ → Bool
fits s pod budget node = is_none (other_claim s pod node) && finds (outcome_on s pod node budget)

-- the first node by name that fits
abbrev pub first_fit : State → Pod → ℕ → Option (List ℕ)
first_fit s pod budget = find (λ node. fits s pod budget node) (keys_of s.inventory.nodes)

abbrev pub mark_settles : Mark → Bool
mark_settles Part = false
mark_settles Full = true
mark_settles Fault = false

-- the search ended within its budget, and at no evaluation error
abbrev pub settles : Outcome → Bool
settles (Ended item) = mark_settles item.mark
settles Unsat = true
settles Budget = false

-- ---- the entries of the job

abbrev pub own : Run → Event → Entry
own c event = record { job = c.job; event = event }

-- the job wrote the pod's use of the claim
pub record IsWrite (c : Run) (pod claim : Key) (e : Entry) : Type 0 where
  pub seen : ℕ
  pub is : e ≡ own c (Wrote pod claim seen)

-- since the job began it reserved by the plan, wrote the use of each of the pod's claims in order, and bound the pod to
-- the plan's node
pub record Binds (c : Run) (h : List Entry) (pod : Key) (state : PodState) (plan : Plan) : Type 0 where
  pub writes : List Entry
  pub each : AllZip (λ k e. IsWrite c pod k e) (claims_of state) writes
  pub entries : drop c.from h ≡ own c (Reserved pod plan) ∷ (writes ++ own c (Bound pod plan.node) ∷ [])

-- since the job began it gave the verdict, and nothing else
abbrev pub Judges : Run → List Entry → Key → Verdict → Type 0
Judges c h pod verdict = drop c.from h ≡ own c (VerdictGiven pod verdict) ∷ []

abbrev pub CarriesOut : Run → List Entry → Key → PodState → Decision → Type 0
CarriesOut c h pod state (Reserve plan) = Binds c h pod state plan
CarriesOut c h pod state (Judge verdict) = Judges c h pod verdict

-- ---- the run

-- A job to schedule a pod was run to its end. When it began, the pod was there and Idle, and all entries since then are
-- the job's.
pub record RanAlone (c : Run) (h : List Entry) (pod : Key) (state : PodState) : Type 0 where
  pub attempts : ℕ
  pub command : c.command ≡ Schedule pod attempts
  pub legal : Legal h
  pub run : JobRun c h
  pub alone : Alone c.job c.from h
  pub idle : IsIdle (state_at h c.from) pod state

-- it carried out the decision on the pod in the state in which it began
pub record Decided (c : Run) (h : List Entry) (pod : Key) (state : PodState) : Type 0 where
  pub choice : Decision
  pub is : IsDecision (state_at h c.from) pod c.budget c.from choice
  pub out : CarriesOut c h pod state choice

-- it bound the pod to the node, by a plan that is true in the state in which it began
pub record BoundTo (c : Run) (h : List Entry) (pod : Key) (state : PodState) (node : List ℕ) : Type 0 where
  pub plan : Plan
  pub node_is : plan.node ≡ node
  pub is : IsReserve (state_at h c.from) pod c.budget c.from plan
  pub out : Binds c h pod state plan

-- its one entry is the verdict with this reason, in the state in which it began
abbrev pub JudgedBy : Run → List Entry → Key → Reason → Type 0
JudgedBy c h pod reason = Judges c h pod (record { at = c.from; reason = reason })

-- its one entry is the verdict that names each node with what a search of it shows
pub record PassedAll (c : Run) (h : List Entry) (pod : Key) (state : PodState) : Type 0 where
  pub nodes : List Passed
  pub passed : AllPassed (state_at h c.from) state.pod.object c.budget (keys_of (state_at h c.from).inventory.nodes) nodes
  pub out : JudgedBy c h pod (Nodes nodes)

-- Each search that a Schedule may make ends within its budget, and at no evaluation error.
abbrev pub AllSettle : State → Pod → ℕ → Type 0
AllSettle s pod budget = (node : List ℕ) → Contains (keys_of s.inventory.nodes) node → other_claim s pod node ≡ None → settles (outcome_on s pod node budget) ≡ true
