-- What the rows that a choice picks ask for.
use Rattle.std.specs.Prelude.{ℕ, zero, suc, ◌+◌, ◌==◌, List, [], ◌∷◌, Bool, false, ◌||◌, Option, None, Some, is_some, map, length, slice_get, nat_lt, if◌then◌else◌}
use Rattle.std.specs.List.{flat_map, list_any}
use Rattle.api_claim.specs.declared.types.AllocationMode.{AllocationMode}
use Rattle.api_claim.specs.declared.types.AllocationMode.TheVariants.{ExactCount, All}
use Rattle.request_rules.specs.Lists.{add_some}
use Rattle.request_rules.specs.Problem.{is_none}
use Rattle.request_rows.specs.declared.choice.Seat.{Seat}
use Rattle.request_rows.specs.declared.choice.Seat.TheVariants.{First, Next, Due}
use Rattle.request_rows.specs.declared.choice.Shape.{Shape}
use Rattle.request_rows.specs.declared.choice.Shape.TheVariants.{Faulty, Hopeless, Open}
use Rattle.request_rows.specs.declared.choice.Slot.{Slot}
use Rattle.request_rows.specs.declared.rows.Row.{Row}
use Rattle.request_rows.specs.declared.ways.RequestRows.{RequestRows}

-- ---- rows

abbrev pub row_for_choice : RequestRows → ℕ → Option ℕ
row_for_choice r k = if r.exact then Some r.first else if nat_lt k r.ways then Some (r.first + k) else None

abbrev pub chosen_rows : List RequestRows → List ℕ → List ℕ
chosen_rows [] ks = []
chosen_rows (r ∷ rs) [] = []
chosen_rows (r ∷ rs) (k ∷ ks) = add_some (row_for_choice r k) (chosen_rows rs ks)

-- ---- shapes

abbrev pub is_faulty : Option Row → Bool
is_faulty None = false
is_faulty (Some r) = is_some r.fault

abbrev pub faulty_at : List Row → ℕ → Bool
faulty_at rows r = is_faulty (slice_get rows r)

abbrev pub fails_by : Bool → List ℕ → AllocationMode → Bool
fails_by broken matching (ExactCount n) = false
fails_by broken matching All = broken || is_none matching

abbrev pub all_fails : Bool → Option Row → Bool
all_fails broken None = false
all_fails broken (Some r) = fails_by broken r.matching r.mode

abbrev pub fails_at : Bool → List Row → ℕ → Bool
fails_at broken rows r = all_fails broken (slice_get rows r)

abbrev pub count_by : List ℕ → AllocationMode → ℕ
count_by matching (ExactCount n) = n
count_by matching All = length matching

-- the claim of a row, and how many slots the row has
abbrev pub due_of : Option Row → ℕ × ℕ
due_of None = (0, 0)
due_of (Some r) = (r.claim, count_by r.matching r.mode)

abbrev pub due_at : List Row → ℕ → ℕ × ℕ
due_at rows r = due_of (slice_get rows r)

-- how many slots the claim has with these, after `total` of it
abbrev pub due_with : ℕ → ℕ → ℕ × ℕ → ℕ
due_with claim total due = (if due.0 == claim then total else 0) + due.1

-- A claim has more than 32 slots: of rows grouped by claim, with `total` slots of the
-- first claim before them.
abbrev pub is_crowded : List Row → (claim total : ℕ) → List ℕ → Bool
is_crowded rows claim total [] = false
is_crowded rows claim total (r ∷ rs) =
    nat_lt 32 (due_with claim total (due_at rows r)) || is_crowded rows (due_at rows r).0 (due_with claim total (due_at rows r)) rs

abbrev pub shape_in : Bool → List Row → List ℕ → List Slot → Shape
shape_in broken rows chosen slots =
    if list_any (faulty_at rows) chosen then Faulty
    else if list_any (fails_at broken rows) chosen then Hopeless
    else if is_crowded rows 0 0 chosen then Hopeless
    else Open (length slots)

-- ---- slots

abbrev pub slot_of : ℕ → Seat → Slot
slot_of row seat = record { row = row; seat = seat }

abbrev pub seats_repeated : ℕ → List Seat
seats_repeated zero = []
seats_repeated (suc n) = Next ∷ seats_repeated n

abbrev pub seats_counted : ℕ → List Seat
seats_counted zero = []
seats_counted (suc n) = First ∷ seats_repeated n

abbrev pub seat_due : ℕ → Seat
seat_due x = Due x

abbrev pub seats_by : List ℕ → AllocationMode → List Seat
seats_by matching (ExactCount n) = seats_counted n
seats_by matching All = map seat_due matching

abbrev pub slots_at : ℕ → Option Row → List Slot
slots_at row None = []
slots_at row (Some r) = map (slot_of row) (seats_by r.matching r.mode)

abbrev pub slots_row : List Row → ℕ → List Slot
slots_row rows r = slots_at r (slice_get rows r)

abbrev pub slots_in : List Row → List ℕ → List Slot
slots_in rows chosen = flat_map (slots_row rows) chosen

abbrev pub slots_by : Shape → List Slot → List Slot
slots_by Faulty slots = []
slots_by Hopeless slots = []
slots_by (Open n) slots = slots
