-- What identifies the slices and the devices of usable pools.
use Rattle.std.specs.Prelude.{◌≡◌, ℕ, List, Some, IsSome, Contains, map}
use Rattle.std.specs.List.{flat_map}
use Rattle.api_slice.specs.declared.types.CounterSet.{CounterSet}
use Rattle.api_slice.specs.declared.types.ResourceSlice.{ResourceSlice}
use Rattle.pool_view.specs.declared.inventory.Inventory.{Inventory}
use Rattle.pool_view.specs.declared.stored.Stored.{Stored}
use Rattle.pool_view.specs.Inventory.{Named}
use Rattle.pool_view.specs.Names.{at_name}
use Rattle.pool_view.specs.Pools.{Offered, offered_by, set_named}
use Rattle.pool_view.specs.Usable.{usable_slices}

-- the slice is found at its own name
pub record IsAtItsName (slices : Named ResourceSlice) (x : ResourceSlice) : Type 0 where
  pub stored : Stored ResourceSlice
  pub there : at_name slices x.name ≡ Some stored
  pub is : stored.object ≡ x

-- all devices of a slice
abbrev pub offers : ResourceSlice → List Offered
offers x = map (offered_by x) x.devices

-- the devices of all slices of usable pools, in order, whatever node sees them
unfoldable pub usable_devices : Inventory → List Offered
usable_devices i = flat_map offers (usable_slices i)

-- A usable slice of the same pool as `x` has the counter in a set of that name.
pub record HasCounter (i : Inventory) (x : ResourceSlice) (set counter : List ℕ) : Type 0 where
  pub slice : ResourceSlice
  pub there : Contains (usable_slices i) slice
  pub driver : slice.driver ≡ x.driver
  pub pool : slice.pool.name ≡ x.pool.name
  pub counters : CounterSet
  pub set_is : set_named slice.counters set ≡ Some counters
  pub value : IsSome (at_name counters.counters counter)
