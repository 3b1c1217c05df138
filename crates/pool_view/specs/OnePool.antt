-- The slices of one pool.
use Rattle.std.specs.Prelude.{◌≡◌, ℕ, List, [], Bool, false, ◌&&◌, IfSome, filter}
use Rattle.std.specs.List.{AllPairs}
use Rattle.std.specs.Ordering.{is_gt, is_lt}
use Rattle.std.specs.List.Sorted.{IsStrictlySortedBy}
use Rattle.std.specs.Map.{keys_of}
use Rattle.api_slice.specs.declared.types.ResourceSlice.{ResourceSlice}
use Rattle.pool_view.specs.Inventory.{InventoryFields, Named}
use Rattle.pool_view.specs.Names.{at_name, text_cmp, text_eq}
use Rattle.pool_view.specs.Usable.{pool_cmp, pool_named}

-- the slice is one of the pool
abbrev pub is_in : (driver pool : List ℕ) → ResourceSlice → Bool
is_in driver pool x = text_eq x.driver driver && text_eq x.pool.name pool

-- those that are stored
unfoldable pub stored_in : (driver pool : List ℕ) → Named ResourceSlice → Named ResourceSlice
stored_in driver pool es = filter (λ e. is_in driver pool e.1.object) es

-- the slices of a pool alone, and no nodes
abbrev pub only_pool : (driver pool : List ℕ) → InventoryFields → InventoryFields
only_pool driver pool i = record { nodes = []; slices = stored_in driver pool i.slices }

-- The slices' names strictly increase.
abbrev pub AreInOrder : InventoryFields → Type 0
AreInOrder i = IsStrictlySortedBy text_cmp (keys_of i.slices)

-- If there is a slice of the name, it isn't one of the pool.
abbrev pub IsElsewhere : (driver pool : List ℕ) → List ℕ → InventoryFields → Type 0
IsElsewhere driver pool name i = IfSome (at_name i.slices name) (λ s. is_in driver pool s.object ≡ false)

-- its pool comes before that one, by driver and then by its own name
abbrev pub is_before : (driver pool : List ℕ) → ResourceSlice → Bool
is_before driver pool x = is_lt (pool_cmp (pool_named x) (record { driver = driver; pool = pool }))

-- The slices are in the order of their pools.
abbrev pub AreByPool : List ResourceSlice → Type 0
AreByPool xs = AllPairs (λ x y. is_gt (pool_cmp (pool_named x) (pool_named y)) ≡ false) xs
