-- A pod's use of a claim is written, which publishes the claim's grant.
use Rattle.std.specs.Prelude.{ℕ, true, option_map}
use Rattle.object_fields.specs.declared.key.Key.{Key}
use Rattle.cluster.specs.declared.entry.JobState.{JobState}
use Rattle.cluster.specs.declared.entry.JobState.TheVariants as job_state
use Rattle.cluster.specs.declared.state.ClaimState.{ClaimState}
use Rattle.cluster.specs.declared.state.Granted.{Granted}
use Rattle.cluster.specs.declared.state.State.{State}
use Rattle.cluster.specs.declared.state.Use.TheVariants.{Written}
use Rattle.cluster.specs.JobState.{failures}
use Rattle.cluster.specs.Tables.{changed_at}

-- what was granted, for others to see
abbrev pub as_published : Granted → Granted
as_published g = record g { published = true }

-- the claim with the pod's use written, and its grant published
abbrev pub written_by : ℕ → Key → ClaimState → ClaimState
written_by index pod c =
    record c { claim = record c.claim { version = index }; grant = option_map as_published c.grant; users = changed_at pod (λ _. Written) c.users }

abbrev pub with_written : ℕ → Key → Key → State → State
with_written index pod claim s = record s { claims = changed_at claim (written_by index pod) s.claims }

-- its job has reserved still
abbrev pub wrote_leaves : JobState → JobState
wrote_leaves st = job_state.Reserved (failures st)
