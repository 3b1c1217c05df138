-- Totals to which what the held devices of slices draw is added, slice after slice.
use Rattle.std.specs.Prelude.{◌≡◌, ◌≤◌, ◌+◌, ◌*◌, ℕ, List, false, length}
use Rattle.std.specs.List.{sum_by}
use Rattle.quantity.specs.Range.{most}
use Rattle.api_slice.specs.Consumption.{amounts_most}
use Rattle.api_slice.specs.declared.types.ResourceSlice.{ResourceSlice}
use Rattle.request_rules.specs.Draws.{CounterId, drawn_by, value_among}
use Rattle.counter_sets.specs.Holding.{Holders, offered_held}
use Rattle.counter_sets.specs.Totals.{KeptCounters, drawn_in, keeps, sum_most, value_of}

-- the most that a device draws from a counter
abbrev pub device_most : ℕ
device_most = amounts_most * most

-- how many devices the slices have
abbrev pub devices_in : List ResourceSlice → ℕ
devices_in xs = sum_by (λ x. length x.devices) xs

-- what their held devices draw from a counter
abbrev pub held_draws : Holders → List ResourceSlice → CounterId → ℕ
held_draws h xs c = sum_by (λ x. drawn_by c (offered_held h x)) xs

-- The totals have the counters of the slices, from which nothing is drawn.
pub record AreUndrawn (xs : List ResourceSlice) (kept : KeptCounters) : Type 0 where
  pub value_is : (c : CounterId) → value_of kept c ≡ value_among xs c
  pub none : (c : CounterId) → drawn_in kept c ≡ 0

-- Each counter from which held devices of the slices draw is kept, and what they draw fits.
pub record HasRoom (h : Holders) (xs : List ResourceSlice) (kept : KeptCounters) : Type 0 where
  pub all_kept : (c : CounterId) → keeps kept c ≡ false → held_draws h xs c ≡ 0
  pub fits : (c : CounterId) → drawn_in kept c + held_draws h xs c ≤ sum_most

-- What the held devices of the slices draw is added, but for those of the slices that are left.
pub record IsAdding (h : Holders) (all left : List ResourceSlice) (old new : KeptCounters) : Type 0 where
  pub same : (c : CounterId) → value_of new c ≡ value_of old c
  pub drawn : (c : CounterId) → drawn_in new c + held_draws h left c ≡ drawn_in old c + held_draws h all c
