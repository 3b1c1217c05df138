-- What all ways evaluate to for a device.
use Rattle.std.specs.Prelude.{ℕ, ◌+◌, List, [], ◌∷◌, Option, None, Some, map, slice_get, if◌then◌else◌}
use Rattle.api_cluster.specs.declared.types.DeviceClass.{DeviceClass}
use Rattle.pool_view.specs.declared.matching.Match.{Match}
use Rattle.pool_view.specs.declared.matching.Match.TheVariants.{No}
use Rattle.pool_view.specs.declared.stored.Stored.{Stored}
use Rattle.pool_view.specs.Names.{at_name}
use Rattle.pool_view.specs.Pools.{Offered}
use Rattle.request_rules.specs.Asked.{Asked, is_fault, is_yes}
use Rattle.request_rules.specs.Match.{ClassTable}
use Rattle.device_match.specs.Selected.{SelectionTexts, device_in, says}
pub use Rattle.device_match.specs.Selected.{has_any}

-- the selectors of a class that exists
abbrev pub selectors_of : Option (Stored DeviceClass) → Option (List (List ℕ))
selectors_of None = None
selectors_of (Some c) = Some c.object.selectors

-- those of a way's class, and the way's own
abbrev pub parts_in : ClassTable → Asked → SelectionTexts
parts_in classes a = record { class = selectors_of (at_name classes a.ask.class); own = a.ask.selectors }

-- what each way evaluates to for each device
abbrev pub columns_for : ClassTable → List Asked → List Offered → List (List Match)
columns_for classes asks devices = map (λ o. map (says (device_in o)) (map (parts_in classes) asks)) devices

-- ---- a row in the columns

abbrev pub match_got : Option Match → Match
match_got None = No
match_got (Some m) = m

abbrev pub match_in : List Match → ℕ → Match
match_in column row = match_got (slice_get column row)

-- the positions, from the first on, at which the row evaluates to Yes
abbrev pub yes_from : ℕ → ℕ → List (List Match) → List ℕ
yes_from first row [] = []
yes_from first row (c ∷ cs) = if is_yes (match_in c row) then first ∷ yes_from (first + 1) row cs else yes_from (first + 1) row cs

-- the first position at which it evaluates to Fault
abbrev pub fault_from : ℕ → ℕ → List (List Match) → Option ℕ
fault_from first row [] = None
fault_from first row (c ∷ cs) = if is_fault (match_in c row) then Some first else fault_from (first + 1) row cs

abbrev pub cell_by : Option (List Match) → ℕ → Match
cell_by None row = No
cell_by (Some c) row = match_in c row

-- what a row evaluates to for the device at a position
abbrev pub cell : List (List Match) → (row position : ℕ) → Match
cell columns row position = cell_by (slice_get columns position) row
