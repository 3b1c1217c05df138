-- What the outcome of a search of a node for a pod means.
use Rattle.std.specs.Prelude.{ℕ, ◌≡◌, List, None, Some, Contains, option_map}
use Rattle.walk.specs.Walk.{Item, Fault}
use Rattle.walk.specs.Outcome.{Budget, Ended, Unsat}
use Rattle.api_cluster.specs.declared.types.Pod.{Pod}
use Rattle.cluster.specs.declared.plan.Grant.{Grant}
use Rattle.cluster.specs.declared.plan.SelectorFault.{SelectorFault}
use Rattle.cluster.specs.declared.state.State.{State}
use Rattle.request_rules.specs.Faults.{fault_of}
use Rattle.allocations.specs.Claims.{other_claim, wanted}
use Rattle.allocations.specs.Input.{input_for, outcome_on, selector_fault, walk_on}
use Rattle.allocations.specs.Allocation.{IsAllocation}

-- the node has no allocation for the pod, and its walk has no evaluation error
pub record IsUnsat (s : State) (pod : Pod) (node : List ℕ) : Type 0 where
  pub none : (choice : List ℕ) (grants : List Grant) → IsAllocation s (wanted s pod) node choice grants → ⊥
  pub unfaulted : (x : Item) → Contains (walk_on s pod node) x → x.mark ≡ Fault → ⊥

-- none of the pod's claims has its grant elsewhere, and a search of the node within the budget finds that there is
-- neither an allocation nor an evaluation error
pub record FindsNone (s : State) (pod : Pod) (budget : ℕ) (node : List ℕ) : Type 0 where
  pub here : other_claim s pod node ≡ None
  pub none : outcome_on s pod node budget ≡ Unsat

-- none of the pod's claims has its grant elsewhere, and a search of the node within the budget ends at an
-- evaluation error, whose location this is
pub record IsFault (s : State) (pod : Pod) (budget : ℕ) (node : List ℕ) (fault : SelectorFault) : Type 0 where
  pub here : other_claim s pod node ≡ None
  pub item : Item
  pub found : outcome_on s pod node budget ≡ Ended item
  pub ends_so : item.mark ≡ Fault
  pub place : option_map selector_fault (fault_of (input_for s pod node) item.choice) ≡ Some fault

-- none of the pod's claims has its grant elsewhere, and a search of the node doesn't end within the budget
pub record IsBudget (s : State) (pod : Pod) (budget : ℕ) (node : List ℕ) : Type 0 where
  pub here : other_claim s pod node ≡ None
  pub over : outcome_on s pod node budget ≡ Budget
