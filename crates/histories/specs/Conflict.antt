-- When a claim's version may be found to be another, and what the write of a use comes to.
use Rattle.std.specs.Prelude.{ℕ, ◌≡◌, ◌≢◌, ◌==◌, List, not, Option, None, Some, find, if◌then◌else◌}
use Rattle.object_fields.specs.declared.key.Key.{Key}
use Rattle.pool_view.specs.Names.{at_key}
use Rattle.cluster.specs.declared.entry.Event.{Event}
use Rattle.cluster.specs.declared.entry.Event.TheVariants.{Wrote, Conflict}
use Rattle.cluster.specs.declared.state.PodState.{PodState}
use Rattle.cluster.specs.declared.state.State.{State}
use Rattle.cluster.specs.declared.state.Use.{Use}
use Rattle.cluster.specs.declared.state.Use.TheVariants.{Assumed, Written}
use Rattle.cluster.specs.State.{claims_of, has_written, use_in, version_of}
use Rattle.histories.specs.Wrote.{IsTaken}

-- the claim is the pod's first that isn't written, and the job assumed this version of it when it reserved
pub record IsNextUse (s : State) (pod : Key) (job : ℕ) (claim : Key) (had : ℕ) : Type 0 where
  pub state : PodState
  pub node : List ℕ
  pub taken : IsTaken s pod job node state
  pub next : find (λ k. not (has_written s pod k)) (claims_of state) ≡ Some claim
  pub assumed : use_in pod (at_key s.claims claim) ≡ Some (Assumed had)

-- the next use, whose claim has another version now
pub record MayConflict (s : State) (pod : Key) (job : ℕ) (claim : Key) (had now : ℕ) : Type 0 where
  pub use_next : IsNextUse s pod job claim had
  pub version : now ≡ version_of s claim
  pub differ : had ≢ now

abbrev pub assumed_by : Option Use → ℕ
assumed_by None = 0
assumed_by (Some (Assumed seen)) = seen
assumed_by (Some Written) = 0

abbrev pub status_event_by : Key → Key → ℕ → ℕ → Event
status_event_by pod claim had now = if had == now then Wrote pod claim had else Conflict pod claim had now

-- what the write of a pod's use comes to: the use is written where the claim has the version that was assumed, and else
-- this is a conflict
abbrev pub status_event : State → Key → Key → Event
status_event s pod claim = status_event_by pod claim (assumed_by (use_in pod (at_key s.claims claim))) (version_of s claim)
