-- What a search of a node depends on, where claims only hold more.
use Rattle.std.specs.Prelude.{ℕ, ◌≡◌, ◌≤◌, ◌⊎◌, List, Bool, true, ◌&&◌, Option}
use Rattle.std.specs.List.{list_any}
use Rattle.object_fields.specs.declared.key.DeviceId.{DeviceId}
use Rattle.api_claim.specs.declared.types.ResourceClaim.{ResourceClaim}
use Rattle.pool_view.specs.declared.names.PoolName.{PoolName}
use Rattle.pool_view.specs.Names.{device_eq, text_eq}
use Rattle.pool_view.specs.Pools.{id_in}
use Rattle.pool_view.specs.Usable.{has_broken, node_devices, pool_named, usable_slices}
use Rattle.cluster.specs.declared.state.State.{State}
use Rattle.cluster.specs.Held.{held}
use Rattle.request_rules.specs.Asked.{Asked, wishes_from}
use Rattle.request_rules.specs.Draws.{CounterId, draws_of, drawn, is_held, value_among}
use Rattle.request_rules.specs.Growth.{class_selectors}
use Rattle.request_rules.specs.Lists.{Each}
use Rattle.request_rules.specs.Ways.{ways_from}

-- the requests and subrequests of claims
abbrev pub asks_of : List ResourceClaim → List Asked
asks_of claims = ways_from (wishes_from 0 claims)

-- a claim holds the device
abbrev pub is_held_at : State → DeviceId → Bool
is_held_at s d = is_held (held s) d

-- the value of a counter, if it exists, and what the held devices draw from it
abbrev pub value_at : State → CounterId → Option ℕ
value_at s k = value_among (usable_slices s.inventory) k

abbrev pub drawn_at : State → CounterId → ℕ
drawn_at s k = drawn (usable_slices s.inventory) (held s) k

-- Since s, a search of the node for claims that ask for the same depends on the same at t, but that more of the node's
-- devices may be held, and more drawn from their counters.
pub record Grown (s t : State) (claims : List ResourceClaim) (node : List ℕ) : Type 0 where
  -- the node sees the same devices of usable pools, and sees broken pools if it did
  pub devices : node_devices t.inventory node ≡ node_devices s.inventory node
  pub broken : has_broken t.inventory node ≡ has_broken s.inventory node
  -- the classes that the claims name have the same selectors
  pub classes : Each (λ a. class_selectors t.classes a.ask.class ≡ class_selectors s.classes a.ask.class) (asks_of claims)
  -- a device that was held is held
  pub held : Each (λ o. is_held_at s (id_in o) ≡ true → is_held_at t (id_in o) ≡ true) (node_devices s.inventory node)
  -- each counter on which a device draws has the same value, and at least as much is drawn from it
  pub values : Each (λ o. Each (λ d. value_at t d.counter ≡ value_at s d.counter) (draws_of o)) (node_devices s.inventory node)
  pub drawn : Each (λ o. Each (λ d. drawn_at s d.counter ≤ drawn_at t d.counter) (draws_of o)) (node_devices s.inventory node)

-- Each device of the pool that a claim held at s is held at t.
pub record StaysHeld (s t : State) (pool : PoolName) : Type 0 where
  pub each : (d : DeviceId) → d.driver ≡ pool.driver → d.pool ≡ pool.pool → is_held_at s d ≡ true → is_held_at t d ≡ true

-- The nodes, the slices and the classes are the same.
pub record SameObjects (s t : State) : Type 0 where
  pub inventory : t.inventory ≡ s.inventory
  pub classes : t.classes ≡ s.classes

-- Each device of the pools of the node's devices that a claim held at s is held at t.
pub record StaysHeldFor (s t : State) (node : List ℕ) : Type 0 where
  pub pools : Each (λ o. StaysHeld s t (pool_named o.slice)) (node_devices s.inventory node)

-- Each device that a claim held at s is held at t.
pub record KeepsHeld (s t : State) : Type 0 where
  pub each : (d : DeviceId) → is_held_at s d ≡ true → is_held_at t d ≡ true

-- ---- what is lost

-- one of these is the device
abbrev pub is_among : List DeviceId → DeviceId → Bool
is_among ds d = list_any (λ h. device_eq h d) ds

-- Each device that a claim held at s is held at t, or is one of these.
pub record KeepsBut (s t : State) (lost : List DeviceId) : Type 0 where
  pub each : (d : DeviceId) → is_held_at s d ≡ true → (is_held_at t d ≡ true) ⊎ (is_among lost d ≡ true)

-- a device of the pool
abbrev pub is_in_pool : PoolName → DeviceId → Bool
is_in_pool pool d = text_eq d.driver pool.driver && text_eq d.pool pool.pool
