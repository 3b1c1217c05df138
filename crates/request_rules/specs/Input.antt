-- The input of a search of a node.
use Rattle.std.specs.Prelude.{ℕ, List, Bool, Option}
use Rattle.object_fields.specs.declared.key.DeviceId.{DeviceId}
use Rattle.object_fields.specs.declared.key.Key.{Key}
use Rattle.api_claim.specs.declared.types.DeviceAsk.{DeviceAsk}
use Rattle.api_claim.specs.declared.types.ResourceClaim.{ResourceClaim}
use Rattle.pool_view.specs.declared.matching.Match.{Match}
use Rattle.pool_view.specs.Pools.{Offered}
use Rattle.request_rules.specs.Draws.{CounterId}

pub record SearchInput : Type 0 where
  -- the devices of the node, in order
  pub devices : List Offered
  -- the claims that have no grant, in the pod's order
  pub claims : List ResourceClaim
  -- what the selectors of an ask's class and then its own evaluate to for a device
  pub matched : DeviceAsk → Offered → Match
  -- the devices that claims hold, each with its claim
  pub held : List (DeviceId × Key)
  -- the value of each counter that exists, in 10^-9
  pub value : CounterId → Option ℕ
  -- what the held devices draw from each counter, in 10^-9
  pub drawn : CounterId → ℕ
  -- an incomplete or invalid pool is visible to the node
  pub broken : Bool
