-- What is kept of the counters of slices, and how a device's draws change it.
use Rattle.std.specs.Prelude.{ℕ, ◌+◌, ◌-◌, ◌==◌, ℤ, List, [], ◌∷◌, Bool, false, Option, None, Some, is_some, map, min, nat_le, option_map, if◌then◌else◌}
use Rattle.std.specs.BTreeMap.{insert_entry, is_at}
use Rattle.std.specs.List.{list_all}
use Rattle.std.specs.Map.{remove_entry, set_value}
use Rattle.std.specs.Option.{option_map_or}
use Rattle.api_slice.specs.declared.types.CounterConsumption.{CounterConsumption}
use Rattle.api_slice.specs.declared.types.CounterSet.{CounterSet}
use Rattle.api_slice.specs.declared.types.ResourceSlice.{ResourceSlice}
use Rattle.pool_view.specs.Names.{at_name, text_cmp, text_eq}
use Rattle.pool_view.specs.Pools.{Offered}
use Rattle.request_rules.specs.Draws.{CounterId, natural}
use Rattle.counter_sets.specs.declared.counter.Counter.{Counter}
use Rattle.counter_sets.specs.declared.added.GrownSet.{GrownSet}
use Rattle.counter_sets.specs.declared.change.Change.{Change}
use Rattle.counter_sets.specs.declared.change.Change.TheVariants.{Draw, Return}

-- values by name
abbrev pub Tabled : Type 0 → Type 0
Tabled V = List (List ℕ × V)

-- the counters of a set, by name
abbrev pub SetCounters : Type 0
SetCounters = Tabled Counter

-- those of the sets of a pool
abbrev pub PoolCounters : Type 0
PoolCounters = Tabled SetCounters

-- those of all pools: by driver, pool, set and counter
abbrev pub KeptCounters : Type 0
KeptCounters = Tabled (Tabled PoolCounters)

abbrev pub or_empty : {V : Type 0} → Option (List V) → List V
or_empty None = []
or_empty (Some vs) = vs

abbrev pub pool_in : KeptCounters → (driver pool : List ℕ) → PoolCounters
pool_in kept driver pool = or_empty (at_name (or_empty (at_name kept driver)) pool)

abbrev pub counter_in : PoolCounters → List ℕ → List ℕ → Option Counter
counter_in sets set counter = at_name (or_empty (at_name sets set)) counter

abbrev pub counter_at : KeptCounters → CounterId → Option Counter
counter_at kept c = counter_in (pool_in kept c.driver c.pool) c.set c.counter

abbrev pub value_kept : Option Counter → Option ℕ
value_kept k = option_map (λ k. natural k.value) k

abbrev pub drawn_kept : Option Counter → ℕ
drawn_kept None = 0
drawn_kept (Some k) = k.drawn

-- the value of a counter, if it is one of the slices that were added
unfoldable pub value_of : KeptCounters → CounterId → Option ℕ
value_of kept c = value_kept (counter_at kept c)

-- the counter is one of the slices that were added
abbrev pub keeps : KeptCounters → CounterId → Bool
keeps kept c = is_some (value_of kept c)

-- what is drawn from a counter: 0 if it isn't kept
unfoldable pub drawn_in : KeptCounters → CounterId → ℕ
drawn_in kept c = drawn_kept (counter_at kept c)

-- ---- a device's draws

-- the maximum of an unsigned 128-bit integer
abbrev pub sum_most : ℕ
sum_most = 340282366920938463463374607431768211455

abbrev pub moved : Change → ℕ → ℕ → ℕ
moved Draw drawn amount = if amount == 0 then drawn else min (drawn + amount) sum_most
moved Return drawn amount = drawn - amount

abbrev pub counter_moved : Change → ℕ → Counter → Counter
counter_moved change amount k = record k { drawn = moved change k.drawn amount }

-- the table with another value at a name, computed from the one at it
abbrev pub changed_at : {V : Type 0} → List ℕ → (V → V) → List (List ℕ × V) → List (List ℕ × V)
changed_at name f table = option_map_or (λ v. set_value (is_at (text_cmp name)) table (f v)) (at_name table name) table

abbrev pub moved_counter : Change → List ℕ → ℕ → SetCounters → SetCounters
moved_counter change name amount counters = changed_at name (λ k. counter_moved change amount k) counters

abbrev pub moved_counters : Change → List (List ℕ × ℤ) → SetCounters → SetCounters
moved_counters change [] counters = counters
moved_counters change (e ∷ es) counters = moved_counters change es (moved_counter change e.0 (natural e.1) counters)

abbrev pub moved_sets : Change → List CounterConsumption → PoolCounters → PoolCounters
moved_sets change [] sets = sets
moved_sets change (c ∷ cs) sets = moved_sets change cs (changed_at c.set (λ counters. moved_counters change c.amounts counters) sets)

abbrev pub moved_pools : Change → List ℕ → List CounterConsumption → Tabled PoolCounters → Tabled PoolCounters
moved_pools change pool consumes pools = changed_at pool (λ sets. moved_sets change consumes sets) pools

abbrev pub moved_by : Change → Offered → KeptCounters → KeptCounters
moved_by change o kept = changed_at o.slice.driver (λ pools. moved_pools change o.slice.pool.name o.device.consumes pools) kept

-- ---- sums

abbrev pub sum_of : List ℕ → List (List ℕ × ℤ) → ℕ
sum_of name [] = 0
sum_of name (e ∷ es) = (if text_eq e.0 name then natural e.1 else 0) + sum_of name es

abbrev pub sum_from : List ℕ → List ℕ → List CounterConsumption → ℕ
sum_from set name [] = 0
sum_from set name (c ∷ cs) = (if text_eq c.set set then sum_of name c.amounts else 0) + sum_from set name cs

-- ---- covered, set by set

-- the counter has room for so much more
abbrev pub has_room : Option Counter → ℕ → Bool
has_room None amount = false
has_room (Some k) amount = nat_le (min (k.drawn + amount) sum_most) (natural k.value)

unfoldable pub covers_counter : SetCounters → Offered → (set name : List ℕ) → Bool
covers_counter counters o set name = has_room (at_name counters name) (min (sum_from set name o.device.consumes) sum_most)

unfoldable pub covers_all : SetCounters → Offered → List ℕ → List (List ℕ × ℤ) → Bool
covers_all counters o set amounts = list_all (λ (e : List ℕ × ℤ). covers_counter counters o set e.0) amounts

unfoldable pub covers_sets : PoolCounters → Offered → Bool
covers_sets sets o = list_all (λ c. covers_all (or_empty (at_name sets c.set)) o c.set c.amounts) o.device.consumes

-- ---- the first counter that doesn't have enough

-- of a set
abbrev pub short_name : SetCounters → Offered → List ℕ → List (List ℕ × ℤ) → Option (List ℕ)
short_name counters o set [] = None
short_name counters o set (e ∷ es) = if covers_counter counters o set e.0 then short_name counters o set es else Some e.0

-- a set and a counter of it
abbrev pub or_short : List ℕ → Option (List ℕ) → Option (List ℕ × List ℕ) → Option (List ℕ × List ℕ)
or_short set None later = later
or_short set (Some name) later = Some (set, name)

-- of the set from which a device draws
unfoldable pub short_set : PoolCounters → Offered → CounterConsumption → Option (List ℕ)
short_set sets o c = short_name (or_empty (at_name sets c.set)) o c.set c.amounts

abbrev pub short_in : PoolCounters → Offered → List CounterConsumption → Option (List ℕ × List ℕ)
short_in sets o [] = None
short_in sets o (c ∷ cs) = or_short c.set (short_set sets o c) (short_in sets o cs)

-- ---- counters of a slice, from which nothing is drawn

abbrev pub undrawn : ℤ → Counter
undrawn value = record { value = value; drawn = 0 }

-- with the counters that aren't there
abbrev pub with_counters : List (List ℕ × ℤ) → SetCounters → SetCounters
with_counters [] counters = counters
with_counters (e ∷ es) counters = with_counters es (if is_some (at_name counters e.0) then counters else insert_entry text_cmp counters e.0 (undrawn e.1))

-- what a set of these becomes
abbrev pub grown_set : PoolCounters → CounterSet → GrownSet
grown_set sets s = record { name = s.name; counters = with_counters s.counters (or_empty (at_name sets s.name)) }

-- with a set without counters, if there is none of that name
abbrev pub with_set : List ℕ → PoolCounters → PoolCounters
with_set name sets = if is_some (at_name sets name) then sets else insert_entry text_cmp sets name []

abbrev pub with_room : List GrownSet → PoolCounters → PoolCounters
with_room [] sets = sets
with_room (g ∷ gs) sets = with_room gs (with_set g.name sets)

-- the first of one name is put last
abbrev pub with_grown : List GrownSet → PoolCounters → PoolCounters
with_grown [] sets = sets
with_grown (g ∷ gs) sets = changed_at g.name (λ counters. g.counters) (with_grown gs sets)

abbrev pub grown_sets : List CounterSet → PoolCounters → List GrownSet
grown_sets ss sets = map (grown_set sets) ss

-- with the counters of these sets that aren't there
abbrev pub with_sets : List CounterSet → PoolCounters → PoolCounters
with_sets ss sets = with_grown (grown_sets ss sets) (with_room (grown_sets ss sets) sets)

-- without the sets of these names
abbrev pub without_sets : List (List ℕ) → PoolCounters → PoolCounters
without_sets [] sets = sets
without_sets (n ∷ ns) sets = remove_entry (is_at (text_cmp n)) (without_sets ns sets)

-- with what f makes of the table at a name, or of an empty table if there is none
abbrev pub put_in : {V : Type 0} → List ℕ → (List (List ℕ × V) → List (List ℕ × V)) → Tabled (List (List ℕ × V)) → Tabled (List (List ℕ × V))
put_in name f table = if is_some (at_name table name) then changed_at name f table else insert_entry text_cmp table name (f [])

abbrev pub pools_with : List ℕ → List CounterSet → Tabled PoolCounters → Tabled PoolCounters
pools_with pool ss pools = put_in pool (λ sets. with_sets ss sets) pools

-- with the counters of a slice
unfoldable pub with_slice : ResourceSlice → KeptCounters → KeptCounters
with_slice x kept = put_in x.driver (λ pools. pools_with x.pool.name x.counters pools) kept

-- ---- the counters of a pool, in place of those that are kept of it

-- with these counters of the slice's pool
unfoldable pub with_pool : ResourceSlice → PoolCounters → KeptCounters → KeptCounters
with_pool x sets kept = put_in x.driver (λ pools. insert_entry text_cmp pools x.pool.name sets) kept

-- without counters of the slice's pool
abbrev pub emptied_pools : List ℕ → Tabled PoolCounters → Tabled PoolCounters
emptied_pools pool pools = changed_at pool (λ sets. []) pools

abbrev pub emptied : ResourceSlice → KeptCounters → KeptCounters
emptied x kept = changed_at x.driver (λ pools. emptied_pools x.pool.name pools) kept
