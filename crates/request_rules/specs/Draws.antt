-- What devices draw from the counters of counter sets (KEP 4815).
use Rattle.std.specs.Prelude.{ℕ, ◌+◌, ℤ, pos, negsuc, List, [], ◌∷◌, Bool, false, not, ◌&&◌, Option, None, Some, option_map, map, filter, min, nat_le, if◌then◌else◌}
use Rattle.std.specs.List.{find, flat_map, list_all, list_any, sum_by}
use Rattle.std.specs.Option.{option_and_then}
use Rattle.object_fields.specs.declared.key.DeviceId.{DeviceId}
use Rattle.object_fields.specs.declared.key.Key.{Key}
use Rattle.quantity.specs.Range.{most}
use Rattle.api_slice.specs.declared.types.CounterConsumption.{CounterConsumption}
use Rattle.api_slice.specs.declared.types.CounterSet.{CounterSet}
use Rattle.api_slice.specs.declared.types.ResourceSlice.{ResourceSlice}
use Rattle.pool_view.specs.Names.{at_name, device_eq, text_eq}
use Rattle.pool_view.specs.Pools.{Offered, id_in, offered_by, set_named}

-- A quantity as an amount in 10^-9. Quantities are at most 2^63 - 1, and amounts aren't negative by the
-- limits of slices.
abbrev pub natural : ℤ → ℕ
natural (pos n) = min n most
natural (negsuc n) = 0

-- a counter of a counter set of a pool
pub record CounterId : Type 0 where
  pub driver : List ℕ
  pub pool : List ℕ
  pub set : List ℕ
  pub counter : List ℕ

abbrev pub counter_eq : CounterId → CounterId → Bool
counter_eq a b = text_eq a.driver b.driver && (text_eq a.pool b.pool && (text_eq a.set b.set && text_eq a.counter b.counter))

-- a counter of a set of the slice's pool
abbrev pub counter_for : ResourceSlice → List ℕ → List ℕ → CounterId
counter_for x set name = record { driver = x.driver; pool = x.pool.name; set = set; counter = name }

-- ---- what a device draws

-- so much from a counter
pub record Draw : Type 0 where
  pub counter : CounterId
  pub amount : ℕ

-- from the counters of one set
abbrev pub draws_from : ResourceSlice → CounterConsumption → List Draw
draws_from x c = map (λ e. record { counter = counter_for x c.set e.0; amount = natural e.1 }) c.amounts

-- what a device draws: from each counter that it lists, also the amount 0, in the order of its list,
-- and then of the names' bytes
unfoldable pub draws_of : Offered → List Draw
draws_of o = flat_map (draws_from o.slice) o.device.consumes

abbrev pub drawn_at : CounterId → Draw → ℕ
drawn_at c d = if counter_eq d.counter c then d.amount else 0

-- what a device draws from a counter
unfoldable pub drawn_from : CounterId → Offered → ℕ
drawn_from c o = sum_by (drawn_at c) (draws_of o)

-- what several draw from it
unfoldable pub drawn_by : CounterId → List Offered → ℕ
drawn_by c os = sum_by (drawn_from c) os

-- ---- what counters have

-- the value of a counter of the set of that name, if it is there
abbrev pub value_in : List CounterSet → List ℕ → List ℕ → Option ℕ
value_in sets set name = option_map natural (option_and_then (λ s. at_name s.counters name) (set_named sets set))

-- the slice is one of the counter's pool
abbrev pub is_of_pool : ResourceSlice → CounterId → Bool
is_of_pool x c = text_eq x.driver c.driver && text_eq x.pool.name c.pool

-- the value of a counter, where a set of the slice has it
unfoldable pub counter_value : ResourceSlice → CounterId → Option ℕ
counter_value x c = if is_of_pool x c then value_in x.counters c.set c.counter else None

abbrev pub or_value : Option ℕ → Option ℕ → Option ℕ
or_value (Some n) later = Some n
or_value None later = later

-- the value of a counter, where a set of one of the slices has it: of the first that does
abbrev pub value_among : List ResourceSlice → CounterId → Option ℕ
value_among [] c = None
value_among (x ∷ xs) c = or_value (counter_value x c) (value_among xs c)

abbrev pub is_within : Option ℕ → ℕ → Bool
is_within None n = false
is_within (Some value) n = nat_le n value

-- the counter has enough for what the device draws from it, `before` being what is drawn from each
abbrev pub has_enough : (CounterId → Option ℕ) → (CounterId → ℕ) → Offered → CounterId → Bool
has_enough value before o c = is_within (value c) (before c + drawn_from c o)

-- each counter on which the device draws has enough for it
unfoldable pub is_covered : (CounterId → Option ℕ) → (CounterId → ℕ) → Offered → Bool
is_covered value before o = list_all (λ d. has_enough value before o d.counter) (draws_of o)

-- the first of the device's draws whose counter doesn't have enough for it
unfoldable pub first_short : (CounterId → Option ℕ) → (CounterId → ℕ) → Offered → Option Draw
first_short value before o = find (λ d. not (has_enough value before o d.counter)) (draws_of o)

-- ---- what is held

-- some claim has the device
abbrev pub is_held : List (DeviceId × Key) → DeviceId → Bool
is_held held id = list_any (λ (h : DeviceId × Key). device_eq h.0 id) held

-- the held ones among the devices of a slice
abbrev pub held_in : List (DeviceId × Key) → ResourceSlice → List Offered
held_in held x = filter (λ o. is_held held (id_in o)) (map (offered_by x) x.devices)

-- the held ones among the devices of slices
unfoldable pub held_devices : List ResourceSlice → List (DeviceId × Key) → List Offered
held_devices slices held = flat_map (held_in held) slices

-- what the held devices of the usable slices draw from a counter
unfoldable pub drawn : List ResourceSlice → List (DeviceId × Key) → CounterId → ℕ
drawn slices held c = drawn_by c (held_devices slices held)
