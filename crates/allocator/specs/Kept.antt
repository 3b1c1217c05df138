-- What a board keeps.
use Rattle.std.specs.Prelude.{ℕ, ◌≤◌, ◌≡◌, List, map}
use Rattle.object_fields.specs.declared.key.DeviceId.{DeviceId}
use Rattle.object_fields.specs.declared.key.Key.{Key}
use Rattle.request_rules.specs.Draws.{CounterId}
use Rattle.counter_sets.specs.Totals.{KeptCounters, drawn_in}
use Rattle.request_rules.specs.Input.{SearchInput}
use Rattle.request_rules.specs.Asked.{rules_of}
use Rattle.request_rules.specs.Problem.{open_slots}
use Rattle.request_rules.specs.Rules.{Pick}
use Rattle.request_rows.specs.Seen.{slot_seen}
use Rattle.request_rows.specs.Wanted.{RowsFields, input_of}
use Rattle.allocator.specs.declared.run.Run.{Run}
use Rattle.allocator.specs.Holding.{Holders}
use Rattle.request_rules.specs.Apart.{AreApart}
use Rattle.allocator.specs.Placing.{IsPlacing, input_at, placed, placed_draws}
use Rattle.allocator.specs.Agreeing.{AreAgreed}

pub record IsRun (v : SearchInput) (r : Run) : Type 0 where
  pub slots_are : map (slot_seen v) r.slots.items ≡ open_slots v r.chosen.items
  pub placing : IsPlacing v r.slots.items r.positions.items
  pub drawn : (k : CounterId) → placed_draws v (placed v r.slots.items r.positions.items) k ≤ drawn_in r.totals k
  pub agreed : AreAgreed v (placed v r.slots.items r.positions.items) (rules_of v) r.agreements.items

-- the input of the search that a run belongs to, which no move of a board changes
abbrev pub setting_of : SearchInput → List (DeviceId × Key) → Run → SearchInput
setting_of v held r = input_at v held r.totals (placed v r.slots.items r.positions.items)

pub record IsBoard (v : SearchInput) (h : Holders) (r : Run) : Type 0 where
  pub same_devices : h.devices ≡ v.devices
  pub apart : AreApart v.devices
  pub run : IsRun v r

-- what contracts see of a board
pub record Placed : Type 0 where
  pub rows : RowsFields
  pub held : List (DeviceId × Key)
  pub totals : KeptCounters
  pub taken : List Pick
  pub choice : List ℕ
  pub positions : List ℕ

abbrev pub board_setting : Placed → SearchInput
board_setting b = input_at (input_of b.rows) b.held b.totals b.taken
