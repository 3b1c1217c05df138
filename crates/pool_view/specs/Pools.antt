-- Pools, and the devices of a node.
use Rattle.std.specs.Prelude.{ℕ, ℤ, ◌==◌, List, [], ◌∷◌, Bool, false, not, ◌&&◌, ◌||◌, Option, None, Some, is_some, map, filter, find, length, max, if◌then◌else◌}
use Rattle.std.specs.List.{flat_map, list_any, list_all}
use Rattle.std.specs.Ordering.{ordering_then}
use Rattle.std.specs.declared.cmp.Ordering.{Ordering}
use Rattle.object_fields.specs.declared.key.DeviceId.{DeviceId}
use Rattle.api_slice.specs.declared.types.CounterConsumption.{CounterConsumption}
use Rattle.api_slice.specs.declared.types.CounterSet.{CounterSet}
use Rattle.api_slice.specs.declared.types.ResourceSlice.{ResourceSlice}
use Rattle.api_slice.specs.declared.types.Device.{Device}
use Rattle.pool_view.specs.declared.order.SlicePlace.{SlicePlace}
use Rattle.pool_view.specs.Inventory.{Named}
use Rattle.pool_view.specs.Names.{at_name, text_cmp, text_eq}

-- the slices of a pool
abbrev pub slices_of : List ℕ → List ℕ → Named ResourceSlice → List ResourceSlice
slices_of driver pool [] = []
slices_of driver pool (e ∷ es) =
    let x = e.1.object in
    if text_eq x.driver driver && text_eq x.pool.name pool then x ∷ slices_of driver pool es else slices_of driver pool es

abbrev pub highest : List ResourceSlice → ℕ
highest [] = 0
highest (x ∷ xs) = max x.pool.generation (highest xs)

-- those of one generation
abbrev pub of_generation : ℕ → List ResourceSlice → List ResourceSlice
of_generation n xs = filter (λ x. x.pool.generation == n) xs

-- those of the highest generation
abbrev pub newest : List ResourceSlice → List ResourceSlice
newest xs = of_generation (highest xs) xs

-- the slices of a pool that have its highest generation
unfoldable pub pool_of : Named ResourceSlice → List ℕ → List ℕ → List ResourceSlice
pool_of all driver pool = newest (slices_of driver pool all)

-- the slice count of the pool in each
abbrev pub counts_of : List ResourceSlice → List ℕ
counts_of xs = map (λ x. x.pool.slices) xs

-- their number equals the count in each
abbrev pub is_complete : List ℕ → Bool
is_complete counts = list_all (λ n. n == length counts) counts

-- two have different counts
abbrev pub counts_differ : List ℕ → Bool
counts_differ counts = list_any (λ n. list_any (λ m. not (n == m)) counts) counts

abbrev pub device_names : ResourceSlice → List (List ℕ)
device_names x = map (λ d. d.name) x.devices

abbrev pub has_twice : List (List ℕ) → Bool
has_twice [] = false
has_twice (n ∷ ns) = list_any (λ m. text_eq m n) ns || has_twice ns

-- the counter sets of slices
abbrev pub sets_of : List ResourceSlice → List CounterSet
sets_of xs = flat_map (λ x. x.counters) xs

abbrev pub set_names : List CounterSet → List (List ℕ)
set_names sets = map (λ s. s.name) sets

abbrev pub set_named : List CounterSet → List ℕ → Option CounterSet
set_named sets name = find (λ s. text_eq s.name name) sets

-- there is a set, and it has each of the counters
abbrev pub has_each : Option CounterSet → List (List ℕ × ℤ) → Bool
has_each None amounts = false
has_each (Some s) amounts = list_all (λ e. is_some (at_name s.counters e.0)) amounts

-- one of the sets has the name, and it has each of the counters
abbrev pub is_there : List CounterSet → CounterConsumption → Bool
is_there sets c = has_each (set_named sets c.set) c.amounts

-- the sets and the counters from which the devices of slices draw are those of these sets
abbrev pub draws_are_there : List CounterSet → List ResourceSlice → Bool
draws_are_there sets xs = list_all (λ x. list_all (λ d. list_all (is_there sets) d.consumes) x.devices) xs

-- two disagree on the count, a device name or a set name appears twice, or a device draws from a set or a counter
-- that none of them has
abbrev pub is_invalid : List ResourceSlice → Bool
is_invalid xs =
    counts_differ (counts_of xs)
    || (has_twice (flat_map device_names xs)
    || (has_twice (set_names (sets_of xs))
    || not (draws_are_there (sets_of xs) xs)))

unfoldable pub is_usable : List ResourceSlice → Bool
is_usable xs = is_complete (counts_of xs) && not (is_invalid xs)

-- by driver, then by pool, then by slice
abbrev pub place_cmp : SlicePlace → SlicePlace → Ordering
place_cmp a b = ordering_then (text_cmp a.driver b.driver) (ordering_then (text_cmp a.pool b.pool) (text_cmp a.slice b.slice))

abbrev pub place_of : ResourceSlice → SlicePlace
place_of x = record { driver = x.driver; pool = x.pool.name; slice = x.name }

abbrev pub id_of : ResourceSlice → Device → DeviceId
id_of x d = record { driver = x.driver; pool = x.pool.name; device = d.name }

-- a device that a slice offers
pub record Offered : Type 0 where
  pub slice : ResourceSlice
  pub device : Device

abbrev pub offered_by : ResourceSlice → Device → Offered
offered_by x d = record { slice = x; device = d }

abbrev pub id_in : Offered → DeviceId
id_in o = id_of o.slice o.device
