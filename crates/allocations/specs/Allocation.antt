-- What an allocation is, in a state.
use Rattle.std.specs.Prelude.{ℕ, ◌≡◌, List, IsSome}
use Rattle.api_claim.specs.declared.types.ResourceClaim.{ResourceClaim}
use Rattle.cluster.specs.declared.plan.Grant.{Grant}
use Rattle.cluster.specs.declared.state.State.{State}
use Rattle.pool_view.specs.Names.{at_name}
use Rattle.request_rules.specs.Allocation as rules
use Rattle.allocations.specs.Input.{grants_by, input_of}

-- The grants are an allocation of the claims on the node, for a choice.
pub record IsAllocation (s : State) (claims : List ResourceClaim) (node : List ℕ) (choice : List ℕ) (grants : List Grant) : Type 0 where
  pub node_known : IsSome (at_name s.inventory.nodes node)
  pub results : List rules.Result
  -- the results are an allocation over the node's devices, what claims hold and what they draw
  pub meant : rules.IsAllocation (input_of s claims node) choice results
  -- each claim has its results, in order
  pub cut : grants ≡ grants_by (input_of s claims node) results
