-- What the searches of all nodes for one pod share.
use Rattle.std.specs.Prelude.{◌≡◌, List, Option, IfSome}
use Rattle.api_claim.specs.declared.types.ResourceClaim.{ResourceClaim}
use Rattle.pool_view.specs.declared.inventory.Inventory.{Inventory}
use Rattle.pool_view.specs.Known.{KnownFields}
use Rattle.cluster.specs.declared.state.State.{State}
use Rattle.cluster.specs.Held.{held}
use Rattle.counter_sets.specs.Holding.{AreHeld, Holders}
use Rattle.request_rules.specs.Match.{ClassTable}
use Rattle.full_nodes.specs.Sure.{IsKnownOf}

-- what contracts see of it: the state, and the claims that need devices
pub record SearchFields : Type 0 where
  pub state : State
  pub claims : List ResourceClaim

-- it is all of the state, with what is known of the claims' selectors, if they are exclusive
pub record IsSearch (s : State) (pools : Inventory) (classes : ClassTable) (claims : List ResourceClaim) (holders : Holders) (known : Option (List KnownFields)) : Type 0 where
  pub pools_are : pools ≡ s.inventory
  pub classes_are : classes ≡ s.classes
  pub holders_are : AreHeld holders (held s)
  pub known_is : IfSome known (IsKnownOf s.inventory.slices classes claims)
