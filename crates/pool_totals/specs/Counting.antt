-- Totals that are kept while claims take devices and give them back.
use Rattle.std.specs.Prelude.{ℕ, ◌≡◌, ◌≤◌, List, [], ◌∷◌, Bool, ◌&&◌, Option, None, Some, is_some, filter, slice_get, if◌then◌else◌}
use Rattle.std.specs.List.{find, sum_by}
use Rattle.std.specs.Option.{option_map}
use Rattle.object_fields.specs.declared.key.DeviceId.{DeviceId}
use Rattle.api_slice.specs.Limits.{IsWithinLimits}
use Rattle.api_slice.specs.declared.types.Device.{Device}
use Rattle.api_slice.specs.declared.types.ResourceSlice.{ResourceSlice}
use Rattle.pool_view.specs.declared.inventory.Inventory.{Inventory}
use Rattle.pool_view.specs.Differing.{offers}
use Rattle.pool_view.specs.Names.{text_eq}
use Rattle.pool_view.specs.Pools.{Offered, id_in, offered_by}
use Rattle.pool_view.specs.Usable.{counted_slices, usable_slices}
use Rattle.request_rules.specs.Draws.{CounterId, drawn_from, value_among}
use Rattle.counter_sets.specs.Holding.{Holders, holder_in}
use Rattle.counter_sets.specs.Totals.{KeptCounters, drawn_in, sum_most, value_of}

-- a claim holds the device
abbrev pub is_taken : Holders → Offered → Bool
is_taken h o = is_some (holder_in h (id_in o))

-- what those of the devices of slices draw from a counter that are chosen
abbrev pub draws_among : (Offered → Bool) → List ResourceSlice → CounterId → ℕ
draws_among chosen xs c = sum_by (λ x. sum_by (drawn_from c) (filter chosen (offers x))) xs

-- what any devices of the usable pools draw from a counter stays below 2^128
abbrev pub AllFit : Inventory → Type 0
AllFit i = (chosen : Offered → Bool) (c : CounterId) → draws_among chosen (counted_slices i) c ≤ sum_most

-- The totals have the counters of the usable pools, with what the held devices of these draw from each. What any of
-- their devices draw stays below 2^128.
pub record AreCounted (i : Inventory) (h : Holders) (kept : KeptCounters) : Type 0 where
  pub value_is : (c : CounterId) → value_of kept c ≡ value_among (usable_slices i) c
  pub drawn_is : (c : CounterId) → drawn_in kept c ≡ draws_among (is_taken h) (counted_slices i) c
  pub fits : (chosen : Offered → Bool) (c : CounterId) → draws_among chosen (counted_slices i) c ≤ sum_most

-- each of the slices keeps the limits
abbrev pub AreWithinLimits : List ResourceSlice → Type 0
AreWithinLimits xs = (j : ℕ) (x : ResourceSlice) → slice_get xs j ≡ Some x → IsWithinLimits x

-- ---- the device of an id

-- the slice is one of the device's pool
abbrev pub is_of : DeviceId → ResourceSlice → Bool
is_of id x = text_eq x.pool.name id.pool && text_eq x.driver id.driver

-- the slice's device that has the id
abbrev pub device_of : DeviceId → ResourceSlice → Option Device
device_of id x = if is_of id x then find (λ d. text_eq d.name id.device) x.devices else None

abbrev pub found_or : Option Offered → Option Offered → Option Offered
found_or None later = later
found_or (Some o) later = Some o

-- the first device of the slices that has the id
abbrev pub found_in : DeviceId → List ResourceSlice → Option Offered
found_in id [] = None
found_in id (x ∷ xs) = found_or (option_map (offered_by x) (device_of id x)) (found_in id xs)
