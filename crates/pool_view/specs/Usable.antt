-- The slices of usable pools and of broken ones, and what a node sees of them.
use Rattle.std.specs.Prelude.{ℕ, List, [], ◌∷◌, Bool, true, false, ◌||◌, Option, None, Some, filter, if◌then◌else◌}
use Rattle.std.specs.List.{flat_map, list_any}
use Rattle.std.specs.Ordering.{ordering_then}
use Rattle.std.specs.declared.cmp.Ordering.{Ordering}
use Rattle.std.specs.BTreeSet.{insert_key}
use Rattle.api_cluster.specs.declared.types.Node.{Node}
use Rattle.api_slice.specs.declared.types.CounterConsumption.{CounterConsumption}
use Rattle.api_slice.specs.declared.types.CounterSet.{CounterSet}
use Rattle.api_slice.specs.declared.types.ResourceSlice.{ResourceSlice}
use Rattle.pool_view.specs.declared.names.PoolName.{PoolName}
use Rattle.pool_view.specs.declared.inventory.Inventory.{Inventory}
use Rattle.pool_view.specs.declared.stored.Stored.{Stored}
use Rattle.pool_view.specs.Inventory.{Named}
use Rattle.pool_view.specs.Names.{text_cmp, at_name}
use Rattle.pool_view.specs.Pools.{Offered, is_usable, pool_of}
use Rattle.pool_view.specs.Visibility.{offered_to, sees_slice}

abbrev pub pool_named : ResourceSlice → PoolName
pool_named x = record { driver = x.driver; pool = x.pool.name }

-- by driver, then by the pool's name
abbrev pub pool_cmp : PoolName → PoolName → Ordering
pool_cmp a b = ordering_then (text_cmp a.driver b.driver) (text_cmp a.pool b.pool)

-- these pools and those of the slices, each inserted in order
abbrev pub pools_with : List PoolName → Named ResourceSlice → List PoolName
pools_with pools [] = pools
pools_with pools (e ∷ es) = pools_with (insert_key pool_cmp pools (pool_named e.1.object)) es

-- all pools, by driver and then by name
abbrev pub pools : Named ResourceSlice → List PoolName
pools all = pools_with [] all

abbrev pub if_usable : List ResourceSlice → List ResourceSlice
if_usable xs = if is_usable xs then xs else []

abbrev pub if_broken : List ResourceSlice → List ResourceSlice
if_broken xs = if is_usable xs then [] else xs

-- the slices of usable pools that have the highest generation of their pool
unfoldable pub usable_slices : Inventory → List ResourceSlice
usable_slices i = flat_map (λ p. if_usable (pool_of i.slices p.driver p.pool)) (pools i.slices)

-- those of incomplete and of invalid pools
unfoldable pub broken_slices : Inventory → List ResourceSlice
broken_slices i = flat_map (λ p. if_broken (pool_of i.slices p.driver p.pool)) (pools i.slices)

abbrev pub has_sets : List CounterSet → Bool
has_sets [] = false
has_sets (s ∷ ss) = true

abbrev pub draws_any : List CounterConsumption → Bool
draws_any [] = false
draws_any (c ∷ cs) = true

-- the slice has counter sets, or one of its devices draws from some
abbrev pub is_counted : ResourceSlice → Bool
is_counted x = has_sets x.counters || list_any (λ d. draws_any d.consumes) x.devices

-- those of usable pools that counters are about
unfoldable pub counted_slices : Inventory → List ResourceSlice
counted_slices i = filter is_counted (usable_slices i)

abbrev pub devices_for : Option (Stored Node) → List ResourceSlice → List Offered
devices_for None xs = []
devices_for (Some node) xs = flat_map (offered_to node.object) xs

-- all devices of usable pools that the node sees, in the order of driver, pool, slice and index in
-- the slice
unfoldable pub node_devices : Inventory → List ℕ → List Offered
node_devices i name = devices_for (at_name i.nodes name) (usable_slices i)

abbrev pub seen_among : Option (Stored Node) → List ResourceSlice → Bool
seen_among None xs = false
seen_among (Some node) xs = list_any (sees_slice node.object) xs

-- an incomplete or invalid pool has a slice of its highest generation that the node sees
unfoldable pub has_broken : Inventory → List ℕ → Bool
has_broken i name = seen_among (at_name i.nodes name) (broken_slices i)
