-- Devices that are placed in the first slots of a choice.
use Rattle.std.specs.Prelude.{ℕ, ◌+◌, ◌-◌, ◌<◌, ◌≤◌, ◌≡◌, List, Bool, true, false, ◌&&◌, ◌||◌, Option, None, Some, map, length, slice_get}
use Rattle.std.specs.List.{sum_by}
use Rattle.object_fields.specs.declared.key.DeviceId.{DeviceId}
use Rattle.object_fields.specs.declared.key.Key.{Key}
use Rattle.pool_view.specs.Pools.{Offered}
use Rattle.request_rules.specs.Draws.{CounterId, is_covered}
use Rattle.counter_sets.specs.Totals.{KeptCounters, drawn_in, value_of}
use Rattle.request_rules.specs.Lists.{Each}
use Rattle.request_rules.specs.Input.{SearchInput}
use Rattle.request_rules.specs.Asked as asking
use Rattle.request_rules.specs.Rules as rules
use Rattle.request_rules.specs.Rules.{amount, draws, fills, may_join, picks}
use Rattle.request_rows.specs.declared.choice.Slot.{Slot}
use Rattle.request_rows.specs.Seen.{slot_seen}
use Rattle.request_rules.specs.Ways.{all_asked, asked_at}
use Rattle.allocator.specs.declared.pick.Pick.{Pick}
use Rattle.allocator.specs.Input.{with_counters}

abbrev pub pick_seen : SearchInput → Pick → rules.Pick
pick_seen v p = record { label = (asked_at v p.row).label; position = p.position }

-- the devices at the positions, in the first slots
abbrev pub placed : SearchInput → List Slot → List ℕ → List rules.Pick
placed v ss l = picks (map (slot_seen v) ss) l

pub record IsPick (v : SearchInput) (p : Pick) : Type 0 where
  pub row : p.row < length (all_asked v)
  pub position : p.position < length v.devices

pub record IsPlacing (v : SearchInput) (ss : List Slot) (l : List ℕ) : Type 0 where
  pub rows : Each (λ s. s.row < length (all_asked v)) ss
  pub filled : length l ≤ length ss
  pub positions : Each (λ x. x < length v.devices) l

-- one above the position, if there is one
abbrev pub least_by : Option ℕ → ℕ
least_by None = 0
least_by (Some x) = x + 1

-- ---- counters

abbrev pub covered_at : (CounterId → Option ℕ) → (CounterId → ℕ) → Option Offered → Bool
covered_at value before None = true
covered_at value before (Some o) = is_covered value before o

-- the device's counters have enough for it, or it draws nothing
abbrev pub covered_by : SearchInput → (CounterId → Option ℕ) → (CounterId → ℕ) → rules.Pick → Bool
covered_by v value before p = p.label.admin || covered_at value before (slice_get v.devices p.position)

-- what the placed devices draw from a counter
abbrev pub placed_draws : SearchInput → List rules.Pick → CounterId → ℕ
placed_draws v ps k = sum_by (λ p. amount k (draws v p)) ps

-- the input of the search, from what counters have and what is drawn now
abbrev pub input_at : SearchInput → List (DeviceId × Key) → KeptCounters → List rules.Pick → SearchInput
input_at v held kept ps = with_counters v held (value_of kept) (λ k. drawn_in kept k - placed_draws v ps k)

-- ---- one device more

-- the device at the position may be placed in the slot, if there is one
abbrev pub next_by : SearchInput → List rules.Pick → (least x : ℕ) → Option asking.Slot → Bool
next_by w ps least x None = false
next_by w ps least x (Some s) = fills w s least x && may_join w ps (record { label = s.asked.label; position = x })

-- the device at the position is for the slot behind the first n
pub record IsNext (ss : List Slot) (n x : ℕ) (p : Pick) : Type 0 where
  pub slot : Slot
  pub there : slice_get ss n ≡ Some slot
  pub row : p.row ≡ slot.row
  pub position : p.position ≡ x
