-- Results by rows.
use Rattle.std.specs.Prelude.{ℕ, ◌+◌, ◌<◌, ◌≤◌, ◌≡◌, List, [], ◌∷◌, ◌++◌, Bool, false, not, slice_get, nat_eq, ◌&&◌, ◌==◌, Option, None, Some, map, length, drop, take, if◌then◌else◌}
use Rattle.object_fields.specs.declared.key.DeviceId.{DeviceId}
use Rattle.object_fields.specs.declared.key.Key.{Key}
use Rattle.std.specs.Cmp.Lexicographic.{pointwise}
use Rattle.std.specs.List.{list_any, position_or_len}
use Rattle.api_claim.specs.declared.types.AllocationMode.{AllocationMode}
use Rattle.api_claim.specs.declared.types.AllocationMode.TheVariants.{ExactCount, All}
use Rattle.pool_view.specs.Pools.{Offered}
use Rattle.pool_view.specs.Usable.{has_broken, node_devices}
use Rattle.pool_view.specs.Views.{ViewFields}
use Rattle.request_rows.specs.Wanted.{RowsFields}
use Rattle.cluster.specs.declared.state.State.{State}
use Rattle.cluster.specs.declared.plan.DeviceResult.{DeviceResult}
use Rattle.request_rules.specs.Draws.{CounterId}
use Rattle.counter_sets.specs.Totals.{KeptCounters, drawn_in, sum_most, value_of}
use Rattle.request_rules.specs.Agreeing as agreeing
use Rattle.request_rules.specs.Joining.{seen_some}
use Rattle.request_rules.specs.Rules.{Pick, total}
use Rattle.counter_sets.specs.Holding.{Holders, holder_in}
use Rattle.request_rules.specs.Asked.{Asked, Wish}
use Rattle.request_rules.specs.Input.{SearchInput}
use Rattle.request_rules.specs.Lists.{Each, or_else}
use Rattle.request_rules.specs.Problem.{is_none}
use Rattle.request_rows.specs.declared.rows.Row.{Row}
use Rattle.request_rules.specs.Ways.{all_asked, asked_at, ways_from}
use Rattle.alloc_rules.specs.declared.naming.Named.{Named}
use Rattle.plan_rules.specs.Chosen.{Due, asked_each, is_named, named_way, place_of}
use Rattle.plan_rules.specs.Shaped.{is_nil, rises_from}
use Rattle.plan_rules.specs.Standing.{held_by}
use Rattle.cluster.specs.declared.failure.Failure.{Failure}

-- what contracts see of a result with its row
pub record DueFields : Type 0 where
  pub claim : Key
  pub row : ℕ
  pub position : ℕ
  pub result : DeviceResult

abbrev pub due_seen : SearchInput → DueFields → Due
due_seen w d = record { claim = d.claim; asked = asked_at w d.row; result = d.result }

-- the row is one of the input's, with admin access if and only if the result has it, and the position that of the device
pub record IsDue (w : SearchInput) (d : DueFields) : Type 0 where
  pub row : d.row < length (all_asked w)
  pub on_node : d.position < length w.devices
  pub position : d.position ≡ place_of w d.result
  pub admin : d.result.admin ≡ (asked_at w d.row).label.admin

-- with these results at the end
pub record AreDuesMore (w : SearchInput) (old new : List DueFields) (dues : List Due) : Type 0 where
  pub more : List DueFields
  pub new_is : new ≡ old ++ more
  pub each_due : Each (IsDue w) more
  pub seen : map (due_seen w) more ≡ dues

abbrev pub positions_of : List DueFields → List ℕ
positions_of ds = map (λ d. d.position) ds

-- ---- rows

abbrev pub due_by : Row → AllocationMode → ℕ
due_by row (ExactCount n) = n
due_by row All = length row.matching

-- how many results are expected for a row
abbrev pub due_of : Row → ℕ
due_of row = due_by row row.mode

-- the positions are those that a row's mode asks for
abbrev pub sits_row : Row → Bool → List ℕ → AllocationMode → Bool
sits_row row broken xs (ExactCount n) = (length xs == n) && rises_from 0 xs
sits_row row broken xs All = not broken && (not (is_none xs) && pointwise nat_eq xs row.matching)

-- what is asked for in rows
abbrev pub asked_rows : SearchInput → List ℕ → List Asked
asked_rows w rows = map (asked_at w) rows

-- as many rows from this one on as there are ways to meet the requests
abbrev pub HasWays : SearchInput → ℕ → List Wish → Type 0
HasWays w first qs = first + length (ways_from qs) ≤ length (all_asked w)

-- they are those of the requests
abbrev pub AreWays : SearchInput → ℕ → List Wish → Type 0
AreWays w first qs = take (length (ways_from qs)) (drop first (all_asked w)) ≡ ways_from qs

-- what the names of a claim's results pick: a number for each of its requests, and the rows that are theirs
pub record Picked (w : SearchInput) (qs : List Wish) (rs : List DeviceResult) (choice rows : List ℕ) : Type 0 where
  pub choice_is : choice ≡ map (λ q. named_way rs q q.request.kind) qs
  pub rows_are : asked_rows w rows ≡ asked_each rs qs
  pub there : Each (λ r. r < length (all_asked w)) rows

-- with what the names of results pick of more requests
pub record IsPickedMore (w : SearchInput) (qs : List Wish) (rs : List DeviceResult) (old new : Named) : Type 0 where
  pub choice : List ℕ
  pub rows : List ℕ
  pub choice_is : new.choice.items ≡ old.choice.items ++ choice
  pub rows_are : new.rows.items ≡ old.rows.items ++ rows
  pub next : new.next ≡ old.next + length (ways_from qs)
  pub picked : Picked w qs rs choice rows

-- with what they pick of a claim's requests, whose rows are the only ones
pub record IsPickedAll (w : SearchInput) (qs : List Wish) (rs : List DeviceResult) (old new : Named) : Type 0 where
  pub choice : List ℕ
  pub choice_is : new.choice.items ≡ old.choice.items ++ choice
  pub next : new.next ≡ old.next + length (ways_from qs)
  pub picked : Picked w qs rs choice new.rows.items

-- how many are before the first that the results name
abbrev pub unnamed : List DeviceResult → List Asked → ℕ
unnamed rs asks = position_or_len (is_named rs) asks

-- ---- holders

abbrev pub pair_of : Due → List (DeviceId × Key)
pair_of d = if d.result.admin then [] else (d.result.device, d.claim) ∷ []

-- the devices of results without admin access, each with its claim
abbrev pub pairs_of : List Due → List (DeviceId × Key)
pairs_of [] = []
pairs_of (d ∷ ds) = pair_of d ++ pairs_of ds

-- the failure of a result whose device is held, by what is kept of holders
abbrev pub held_in : Holders → Due → Option Failure
held_in holders d = if d.result.admin then None else held_by d (holder_in holders d.result.device)

-- by what is kept of holders, or else by what earlier results have
abbrev pub held_among : Holders → Holders → Due → Option Failure
held_among holders own d = if d.result.admin then None else held_by d (or_else (holder_in holders d.result.device) (holder_in own d.result.device))

-- ---- counters

-- The totals have the value of each counter, and what the held devices and the results draw from it.
pub record HasDrawn (v w : SearchInput) (totals : KeptCounters) (ps : List Pick) : Type 0 where
  pub devices : w.devices ≡ v.devices
  pub value : (c : CounterId) → value_of totals c ≡ w.value c
  pub drawn : (c : CounterId) → drawn_in totals c ≡ total w c ps
  pub most : (c : CounterId) → drawn_in totals c ≤ sum_most

-- the device lists counters from which it draws
abbrev pub draws_by : Option Offered → Bool
draws_by None = false
draws_by (Some o) = not (is_nil o.device.consumes)

-- a result without admin access whose device draws on a counter
abbrev pub draws_one : SearchInput → DueFields → Bool
draws_one w d = not d.result.admin && draws_by (slice_get w.devices d.position)

-- one of the results, without admin access, has a device that draws on a counter
abbrev pub draws_any : SearchInput → List DueFields → Bool
draws_any w ds = list_any (draws_one w) ds

-- ---- constraints

-- a result, as constraints see it
abbrev pub seen_as : SearchInput → DueFields → List agreeing.Pick
seen_as w d = seen_some (asked_at w d.row).label (slice_get w.devices d.position)

-- the results are in the order of their claims, none of which has a lower index than this
abbrev pub AreByClaim : ℕ → List Due → Type 0
AreByClaim least [] = Unit {0}
AreByClaim least (d ∷ ds) = (least ≤ d.asked.label.claim) × AreByClaim d.asked.label.claim ds

-- the result is of the claim at an index
abbrev pub is_at_place : SearchInput → ℕ → DueFields → Bool
is_at_place w place d = (asked_at w d.row).label.claim == place

-- ---- the node

-- the view is what the node sees
pub record IsViewOf (s : State) (node : List ℕ) (view : ViewFields) : Type 0 where
  pub devices : view.devices ≡ node_devices s.inventory node
  pub broken : view.has_broken ≡ has_broken s.inventory node

-- the rows are of the node's devices and the classes that exist
pub record AreRowsOf (s : State) (node : List ℕ) (rows : RowsFields) : Type 0 where
  pub devices : rows.devices ≡ node_devices s.inventory node
  pub broken : rows.broken ≡ has_broken s.inventory node
  pub classes : rows.wants.classes ≡ s.classes
