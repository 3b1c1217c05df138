-- The slices of each pool, kept beside those of all pools.
use Rattle.std.specs.Prelude.{ℕ, ◌≡◌, List, [], Bool, false, Option, None, Some, IfSome}
use Rattle.std.specs.BTreeMap.{is_at}
use Rattle.std.specs.Map.{lookup}
use Rattle.std.specs.Option.{unwrap_or}
use Rattle.api_slice.specs.declared.types.ResourceSlice.{ResourceSlice}
use Rattle.pool_view.specs.declared.names.PoolName.{PoolName}
use Rattle.pool_view.specs.declared.stored.Stored.{Stored}
use Rattle.pool_view.specs.Inventory.{Named, created, updated}
use Rattle.pool_view.specs.OnePool.{is_in, stored_in}
use Rattle.pool_view.specs.Usable.{pool_cmp}

abbrev pub Index : Type 0
Index = List (PoolName × Named ResourceSlice)

-- the slices of a pool in an index
abbrev pub at_pool : Index → PoolName → Named ResourceSlice
at_pool index p = unwrap_or (lookup (is_at (pool_cmp p)) index) []

-- what the index has for each pool is what is of the pool among all slices
abbrev pub IsIndex : Named ResourceSlice → Index → Type 0
IsIndex all index = (p : PoolName) → at_pool index p ≡ stored_in p.driver p.pool all

abbrev pub AreIndexed : Named ResourceSlice → Option Index → Type 0
AreIndexed all index = IfSome index (IsIndex all)

-- a slice that the entry at an index puts in the place of another, or of none
abbrev pub stored_by : ℕ → ResourceSlice → Option (Stored ResourceSlice) → Stored ResourceSlice
stored_by place x None = created place x
stored_by place x (Some old) = updated place x old

-- there was a slice, and it is one of the pool
abbrev pub was_in : (driver pool : List ℕ) → Option (Stored ResourceSlice) → Bool
was_in driver pool None = false
was_in driver pool (Some s) = is_in driver pool s.object
