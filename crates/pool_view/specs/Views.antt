-- A node's view of the pools, and the index of a device in it.
use Rattle.std.specs.Prelude.{ℕ, ◌+◌, List, [], ◌∷◌, Bool, Option, None, Some, is_some, if◌then◌else◌}
use Rattle.std.specs.BTreeMap.{insert_entry, is_at}
use Rattle.std.specs.Map.{lookup}
use Rattle.std.specs.Ordering.{ordering_then}
use Rattle.std.specs.declared.cmp.Ordering.{Ordering}
use Rattle.object_fields.specs.declared.key.DeviceId.{DeviceId}
use Rattle.pool_view.specs.declared.inventory.Inventory.{Inventory}
use Rattle.pool_view.specs.Names.{device_eq, text_cmp}
use Rattle.pool_view.specs.Pools.{Offered, id_in}

-- what contracts see of a view
pub record ViewFields : Type 0 where
  pub inventory : Inventory
  pub devices : List Offered
  pub has_broken : Bool

-- the index of the device of that id, where the first has this index
abbrev pub position_from : ℕ → DeviceId → List Offered → Option ℕ
position_from n id [] = None
position_from n id (o ∷ os) = if device_eq (id_in o) id then Some n else position_from (n + 1) id os

abbrev pub position_of : DeviceId → List Offered → Option ℕ
position_of id os = position_from 0 id os

-- by driver, pool and device
abbrev pub device_cmp : DeviceId → DeviceId → Ordering
device_cmp a b = ordering_then (text_cmp a.driver b.driver) (ordering_then (text_cmp a.pool b.pool) (text_cmp a.device b.device))

abbrev pub Places : Type 0
Places = List (DeviceId × ℕ)

-- with an index for the id, unless it has one
abbrev pub with_place : Places → DeviceId → ℕ → Places
with_place places id n = if is_some (lookup (is_at (device_cmp id)) places) then places else insert_entry device_cmp places id n

-- with the indices of devices, of which the first has this one
unfoldable pub places_from : ℕ → List Offered → Places → Places
places_from n [] places = places
places_from n (o ∷ os) places = places_from (n + 1) os (with_place places (id_in o) n)
