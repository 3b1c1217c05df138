-- When the objects of a history changed last, and when devices of a pool may have been freed last.
use Rattle.std.specs.Prelude.{ℕ, ◌≡◌, List, [], Bool, true, false, if◌then◌else◌}
use Rattle.std.specs.List.{list_any}
use Rattle.pool_view.specs.declared.names.PoolName.{PoolName}
use Rattle.cluster.specs.declared.entry.Entry.{Entry}
use Rattle.cluster.specs.declared.entry.Event.{Event}
use Rattle.cluster.specs.declared.entry.Event.TheVariants.{Applied, Deleted, Reserved, Refused, Wrote, Conflict, Unreserved, Bound, VerdictGiven, Contended, Released, Adopted, Denied}
use Rattle.cluster.specs.declared.object.Object.{Object}
use Rattle.cluster.specs.declared.object.Object.TheVariants as object
use Rattle.cluster.specs.declared.object.Target.{Target}
use Rattle.cluster.specs.declared.object.Target.TheVariants as target
use Rattle.cluster.specs.declared.state.Granted.{Granted}
use Rattle.cluster.specs.declared.state.State.{State}
use Rattle.cluster.specs.Events.{after}
use Rattle.cluster.specs.History.{told}
use Rattle.cluster.specs.State.{empty_state}
use Rattle.request_rules.specs.Lists.{add_some}
use Rattle.allocations.specs.Growth.{is_in_pool}
use Rattle.allocations.specs.Lacking.{Dates, freed_for}
use Rattle.allocations.specs.Lost.{devices_of, lost_of, lost_with}

-- ---- nodes, slices and classes

-- a node, a slice or a class
abbrev pub is_searched : Object → Bool
is_searched (object.Node x) = true
is_searched (object.Slice x) = true
is_searched (object.Class x) = true
is_searched (object.Claim x) = false
is_searched (object.Pod x) = false

abbrev pub names_searched : Target → Bool
names_searched (target.Node name) = true
names_searched (target.Slice name) = true
names_searched (target.Class name) = true
names_searched (target.Claim key) = false
names_searched (target.Pod key) = false

-- the event changes nodes, slices or classes
abbrev pub changes_objects : Event → Bool
changes_objects (Applied object mode) = is_searched object
changes_objects (Deleted target) = names_searched target
changes_objects (Reserved pod plan) = false
changes_objects (Refused pod plan why) = false
changes_objects (Wrote pod claim seen) = false
changes_objects (Conflict pod claim had now) = false
changes_objects (Unreserved pod) = false
changes_objects (Bound pod node) = false
changes_objects (VerdictGiven pod verdict) = false
changes_objects (Contended pod attempts) = false
changes_objects (Released pod) = false
changes_objects (Adopted claim status) = false
changes_objects (Denied command refusal) = false

abbrev pub next_objects : ℕ → ℕ → Entry → ℕ
next_objects date index e = if changes_objects e.event then index else date

-- the index of the last entry that changes nodes, slices or classes, or 0
unfoldable pub objects_at : List Entry → ℕ
objects_at h = told next_objects 0 0 h

-- ---- devices that may be free again

-- the grants that go with an event, in the state before it
abbrev pub lost_by : State → Event → List Granted
lost_by s (Applied object mode) = []
lost_by s (Deleted target) = add_some (lost_of s target) []
lost_by s (Reserved pod plan) = []
lost_by s (Refused pod plan why) = []
lost_by s (Wrote pod claim seen) = []
lost_by s (Conflict pod claim had now) = []
lost_by s (Unreserved pod) = lost_with s pod
lost_by s (Bound pod node) = []
lost_by s (VerdictGiven pod verdict) = []
lost_by s (Contended pod attempts) = []
lost_by s (Released pod) = lost_with s pod
lost_by s (Adopted claim status) = []
lost_by s (Denied command refusal) = []

-- a grant that goes with the event holds a device of the pool
unfoldable pub may_free : State → Event → PoolName → Bool
may_free s event pool = list_any (is_in_pool pool) (devices_of (lost_by s event))

-- a state, and the index of the last entry before it that may have freed a device of a pool
pub record DatedState : Type 0 where
  pub state : State
  pub index : ℕ

abbrev pub next_freed : PoolName → DatedState → ℕ → Entry → DatedState
next_freed pool f index e = record {
  state = after index e.job e.event f.state;
  index = if may_free f.state e.event pool then index else f.index;
}

-- the index of the last entry that may have freed a device of the pool, or 0
unfoldable pub freed_at : List Entry → PoolName → ℕ
freed_at h pool = (told (next_freed pool) (record { state = empty_state; index = 0 }) 0 h).index

-- The dates are the history's.
pub record AreDatesOf (h : List Entry) (d : Dates) : Type 0 where
  pub objects : d.objects ≡ objects_at h
  pub freed : (pool : PoolName) → freed_for d pool ≡ freed_at h pool
