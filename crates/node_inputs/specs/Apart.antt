-- How the devices of a node differ.
use Rattle.std.specs.Prelude.{◌≡◌, ℕ, List, Some, Contains, slice_get}
use Rattle.api_slice.specs.declared.types.ResourceSlice.{ResourceSlice}
use Rattle.pool_view.specs.Differing.{IsAtItsName}
use Rattle.pool_view.specs.Inventory.{Named}
use Rattle.pool_view.specs.Pools.{Offered}

-- each of the devices is one of a slice's
pub record AreListed (devices : List Offered) (slices : List ResourceSlice) : Type 0 where
  pub in_slices : (i : ℕ) (o : Offered) → slice_get devices i ≡ Some o → Contains slices o.slice
  pub in_slice : (i : ℕ) (o : Offered) → slice_get devices i ≡ Some o → Contains o.slice.devices o.device

-- the slice of each of the devices is found at its own name
pub record AreNamed (slices : Named ResourceSlice) (devices : List Offered) : Type 0 where
  pub at_names : (i : ℕ) (o : Offered) → slice_get devices i ≡ Some o → IsAtItsName slices o.slice
