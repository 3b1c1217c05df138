-- What the nodes have for a pod, one after another.
use Rattle.std.specs.Prelude.{ℕ, ◌≡◌, List, ◌∷◌, ◌++◌, Option, None, Some}
use Rattle.std.specs.List.{AllByRecursion}
use Rattle.walk.specs.Walk.{Item, Full}
use Rattle.walk.specs.Outcome.{Ended}
use Rattle.api_cluster.specs.declared.types.Pod.{Pod}
use Rattle.cluster.specs.declared.plan.Cause.TheVariants as cause
use Rattle.cluster.specs.declared.plan.Grant.{Grant}
use Rattle.cluster.specs.declared.plan.Passed.{Passed}
use Rattle.cluster.specs.declared.state.State.{State}
use Rattle.allocations.specs.Claims.{other_claim}
use Rattle.allocations.specs.Input.{grants_at, input_for, outcome_on}
use Rattle.allocator.specs.declared.outcome.Outcome.{Outcome}
use Rattle.allocator.specs.declared.outcome.Outcome.TheVariants as outcome
use Rattle.pod_decision.specs.declared.nodes.Taken.{Taken}
use Rattle.pod_decision.specs.declared.nodes.Tried.{Tried}
use Rattle.pod_decision.specs.declared.nodes.Tried.TheVariants as tried
use Rattle.plan_rules.specs.Plans.{CauseBy, nodes_of}
use Rattle.engine_ports.specs.Passed.{AllPassed}

-- the claims with a grant have it on the node, and a search of it within the budget finds these grants
pub record FindsGrants (s : State) (pod : Pod) (budget : ℕ) (node : List ℕ) (grants : List Grant) : Type 0 where
  pub here : other_claim s pod node ≡ None
  pub item : Item
  pub found : outcome_on s pod node budget ≡ Ended item
  pub full : item.mark ≡ Full
  pub grants_are : grants ≡ grants_at (input_for s pod node) item

-- what the node has is what a search of it shows
abbrev pub IsTried : State → Pod → ℕ → List ℕ → Tried → Type 0
IsTried s pod budget node (tried.Found grants) = FindsGrants s pod budget node grants
IsTried s pod budget node (tried.Passed cause) = CauseBy s pod budget node cause

abbrev pub tried_of : ℕ → Outcome → Tried
tried_of budget (outcome.Found grants) = tried.Found grants
tried_of budget outcome.Unsat = tried.Passed cause.Unsat
tried_of budget (outcome.Fault fault) = tried.Passed (cause.Fault fault)
tried_of budget outcome.Budget = tried.Passed (cause.Budget budget)

-- the nodes before the one that is taken are passed over
pub record IsFirstTaken (s : State) (pod : Pod) (budget : ℕ) (names : List (List ℕ)) (passed : List Passed) (taken : Taken) : Type 0 where
  pub rest : List (List ℕ)
  pub names_are : nodes_of passed ++ taken.node ∷ rest ≡ names
  pub causes : AllByRecursion (λ p. CauseBy s pod budget p.node p.cause) passed
  pub found : FindsGrants s pod budget taken.node taken.grants

abbrev pub AreTried : State → Pod → ℕ → List (List ℕ) → List Passed → Option Taken → Type 0
AreTried s pod budget names passed None = AllPassed s pod budget names passed
AreTried s pod budget names passed (Some taken) = IsFirstTaken s pod budget names passed taken
