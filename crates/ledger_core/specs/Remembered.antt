-- What a ledger remembers beside its entries: dates, and nodes that are known to have no allocation.
use Rattle.std.specs.Prelude.{ℕ, ◌≡◌, ◌+◌, ◌++◌, List, [], ◌∷◌, Bool, length, if◌then◌else◌}
use Rattle.object_fields.specs.declared.key.DeviceId.{DeviceId}
use Rattle.pool_view.specs.declared.names.PoolName.{PoolName}
use Rattle.cluster.specs.declared.entry.Entry.{Entry}
use Rattle.cluster.specs.declared.plan.DeviceResult.{DeviceResult}
use Rattle.cluster.specs.declared.state.Granted.{Granted}
use Rattle.cluster.specs.History.{state_of}
use Rattle.request_rules.specs.Lists.{Each}
use Rattle.allocations.specs.Lacking.{Dates, freed_for}
use Rattle.histories.specs.Growth.{AreDatesOf, changes_objects, lost_by}
use Rattle.histories.specs.Legal.{Legal}
use Rattle.node_memo.specs.Dated.{names}
use Rattle.node_memo.specs.Memo.{NodesFields, Tells}

-- What is remembered of nodes is true in the state after the entries, by their dates.
pub record IsTrueOf (h : List Entry) (rows : List NodesFields) : Type 0 where
  pub tells : (d : Dates) → AreDatesOf h d → Tells (state_of h) d rows (length h)

-- so is each memo of a list
abbrev pub AreTrueOf : List Entry → List (List NodesFields) → Type 0
AreTrueOf h memos = Each (IsTrueOf h) memos

-- The dates are those of the entries, and what is remembered is true.
pub record Remembers (h : List Entry) (d : Dates) (memos : List (List NodesFields)) : Type 0 where
  pub dated : AreDatesOf h d
  pub known : AreTrueOf h memos

-- ---- the pools of devices

abbrev pub pool_of : DeviceId → PoolName
pool_of d = record { driver = d.driver; pool = d.pool }

-- those of the results without admin access
abbrev pub pools_held : List DeviceResult → List PoolName
pools_held [] = []
pools_held (r ∷ rs) = if r.admin then pools_held rs else pool_of r.device ∷ pools_held rs

abbrev pub pools_lost : List Granted → List PoolName
pools_lost [] = []
pools_lost (g ∷ gs) = pools_held g.results ++ pools_lost gs

-- the date of a pool, of which this was the date before those of these pools were set to an index
abbrev pub set_in : ℕ → PoolName → List PoolName → ℕ → ℕ
set_in index p [] date = date
set_in index p (q ∷ qs) date = set_in index p qs (if names p q then index else date)

-- ---- one entry more

-- The date of nodes, slices and classes is set to this index if the truth value says so, and those of the pools in which
-- these grants held devices.
pub record AreSet (objects : Bool) (lost : List Granted) (index : ℕ) (d later : Dates) : Type 0 where
  pub date : later.objects ≡ (if objects then index else d.objects)
  pub freed : (pool : PoolName) → freed_for later pool ≡ set_in index pool (pools_lost lost) (freed_for d pool)

-- The same dates.
pub record IsSame (d later : Dates) : Type 0 where
  pub objects : later.objects ≡ d.objects
  pub freed : (pool : PoolName) → freed_for later pool ≡ freed_for d pool

-- One entry more keeps dates that it sets, and entries more keep what is known if the history stays legal.
pub record GoesOn : Type 0 where
  pub none : AreDatesOf [] (record { objects = 0; freed = [] })
  pub dated : (h : List Entry) (e : Entry) (d later : Dates) → AreDatesOf h d → AreSet (changes_objects e.event) (lost_by (state_of h) e.event) (length h + 1) d later → AreDatesOf (h ++ e ∷ []) later
  pub known : (h more : List Entry) (d : Dates) (rows : List NodesFields) → Legal (h ++ more) → AreDatesOf h d → IsTrueOf h rows → IsTrueOf (h ++ more) rows
