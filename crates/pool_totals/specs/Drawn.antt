-- What is drawn from the counters of usable pools.
use Rattle.std.specs.Prelude.{◌≡◌, ◌≤◌, ◌+◌, List}
use Rattle.object_fields.specs.declared.key.DeviceId.{DeviceId}
use Rattle.object_fields.specs.declared.key.Key.{Key}
use Rattle.pool_view.specs.declared.inventory.Inventory.{Inventory}
use Rattle.pool_view.specs.Usable.{usable_slices}
use Rattle.request_rules.specs.Draws.{CounterId, drawn, value_among}
use Rattle.counter_sets.specs.Totals.{KeptCounters, drawn_in, sum_most, value_of}

-- The totals have the counters of the usable pools, with what the held devices of these draw from each.
pub record AreDrawn (i : Inventory) (pairs : List (DeviceId × Key)) (kept : KeptCounters) : Type 0 where
  pub value_is : (c : CounterId) → value_of kept c ≡ value_among (usable_slices i) c
  pub drawn_is : (c : CounterId) → drawn_in kept c ≡ drawn (usable_slices i) pairs c

-- The same with what the devices of two lists of holders draw.
pub record AreDrawnByBoth (i : Inventory) (pairs others : List (DeviceId × Key)) (kept : KeptCounters) : Type 0 where
  pub value_is : (c : CounterId) → value_of kept c ≡ value_among (usable_slices i) c
  pub drawn_is : (c : CounterId) → drawn_in kept c ≡ drawn (usable_slices i) pairs c + drawn (usable_slices i) others c
  pub most : (c : CounterId) → drawn_in kept c ≤ sum_most
