-- What nodes are tried with.
use Rattle.std.specs.Prelude.{ℕ, ◌≡◌, List, Option, IfSome}
use Rattle.api_claim.specs.declared.types.ResourceClaim.{ResourceClaim}
use Rattle.api_cluster.specs.declared.types.Pod.{Pod}
use Rattle.request_rules.specs.Growth.{ClaimSpec, specs_of}
use Rattle.cluster.specs.declared.state.State.{State}
use Rattle.cluster.specs.Held.{held}
use Rattle.counter_sets.specs.Holding.{AreHeld, Holders}
use Rattle.counter_sets.specs.Totals.{KeptCounters}
use Rattle.pool_totals.specs.Drawn.{AreDrawn}
use Rattle.allocations.specs.Claims.{wanted}
use Rattle.allocations.specs.Lacking.{Dates}
use Rattle.node_memo.specs.Memo.{NodesFields, TellsOf}
use Rattle.pod_decision.specs.Searches.{SearchFields}

-- what contracts see of it: what it is for
pub record TriesFields : Type 0 where
  pub state : State
  pub pod : Pod
  pub budget : ℕ
  pub dates : Dates
  pub at : ℕ

-- the nodes are those for claims that ask for this, within the budget, and what their rows say is true
pub record IsMemoryOf (s : State) (specs : List ClaimSpec) (budget : ℕ) (d : Dates) (at : ℕ) (nodes : NodesFields) : Type 0 where
  pub tells : TellsOf s d nodes at
  pub specs_are : nodes.specs ≡ specs
  pub budget_is : nodes.budget ≡ budget

-- so it is for the claims of a pod, if something is kept of nodes
abbrev pub Remembers : State → Pod → ℕ → Dates → ℕ → Option NodesFields → Type 0
Remembers s pod budget d at nodes = IfSome nodes (IsMemoryOf s (specs_of (wanted s pod)) budget d at)

-- the search is that of the state for the claims
abbrev pub IsMade : State → List ResourceClaim → SearchFields → Type 0
IsMade s claims search = search ≡ record { state = s; claims = claims }

-- all of it is of the state and the pod
pub record AreTries (s : State) (pod : Pod) (holders : Holders) (totals : KeptCounters) (budget : ℕ) (d : Dates) (at : ℕ) (nodes : Option NodesFields) (search : Option SearchFields) : Type 0 where
  pub holders_are : AreHeld holders (held s)
  pub totals_are : AreDrawn s.inventory (held s) totals
  pub remembers : Remembers s pod budget d at nodes
  pub search_is : IfSome search (IsMade s (wanted s pod))
