-- A ledger as contracts see it.
use Rattle.std.specs.Prelude.{ℕ, ◌≡◌, ◌≤◌, ◌^◌, ◌<◌, ◌++◌, ◌∷◌, [], List, false, length, Option}
use Rattle.std.specs.BTreeMap.{is_at}
use Rattle.std.specs.Map.{lookup}
use Rattle.std.specs.Option.{unwrap_or}
use Rattle.std.specs.Ordering.{nat_cmp}
use Rattle.cluster.specs.declared.entry.JobState.{JobState}
use Rattle.cluster.specs.declared.entry.JobState.TheVariants.{Fresh}
use Rattle.counter_sets.specs.Holding.{AreHeld, Holders}
use Rattle.counter_sets.specs.Totals.{KeptCounters}
use Rattle.cluster.specs.Held.{held}
use Rattle.cluster.specs.declared.state.State.{State}
use Rattle.cluster.specs.declared.entry.Entry.{Entry}
use Rattle.cluster.specs.declared.entry.Event.{Event}
use Rattle.pool_totals.specs.Counting.{AreCounted}
use Rattle.histories.specs.Legal.{Legal}
use Rattle.cluster.specs.Events.{after}
use Rattle.cluster.specs.History.{job_state_of, state_of}
use Rattle.histories.specs.Growth.{changes_objects, lost_by}

-- its entries, and how many it may have
pub record History : Type 0 where
  pub entries : List Entry
  pub limit : ℕ

-- with one entry more
abbrev pub appended : History → ℕ → Event → History
appended h job event = record h { entries = h.entries ++ record { job = job; event = event } ∷ [] }

-- what a table has at a number
abbrev pub at : {V : Type 0} → List (ℕ × V) → ℕ → Option V
at table n = lookup (is_at (nat_cmp n)) table

-- the row of a job in the table of the jobs' states; a job without one is Fresh
abbrev pub job_state_in : List (ℕ × JobState) → ℕ → JobState
job_state_in job_states job = unwrap_or (at job_states job) Fresh

-- the entries are a legal history, and the state, its holders, the totals and each job's state are those after them
pub record IsKept (entries : List Entry) (state : State) (holders : Holders) (totals : KeptCounters) (job_states : List (ℕ × JobState)) (limit : ℕ) : Type 0 where
  pub legal : Legal entries
  pub state_is : state ≡ state_of entries
  pub holders_are : AreHeld holders (held state)
  pub counted : AreCounted state.inventory holders totals
  pub job_states_are : (job : ℕ) → job_state_in job_states job ≡ job_state_of entries job
  pub within : length entries ≤ limit
  pub small : limit < 2 ^ 48

-- An event that changes no state and sets no date.
pub record IsNote (event : Event) : Type 0 where
  pub same : (index job : ℕ) (s : State) → after index job event s ≡ s
  pub undated : changes_objects event ≡ false
  pub kept : (s : State) → lost_by s event ≡ []
