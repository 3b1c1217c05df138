-- A claim is granted what a status write says.
use Rattle.std.specs.Prelude.{ℕ, true, Some, map}
use Rattle.object_fields.specs.declared.key.Key.{Key}
use Rattle.api_claim.specs.declared.types.ClaimStatus.{ClaimStatus}
use Rattle.api_claim.specs.declared.types.StatusResult.{StatusResult}
use Rattle.cluster.specs.declared.entry.JobState.{JobState}
use Rattle.cluster.specs.declared.entry.JobState.TheVariants as job_state
use Rattle.cluster.specs.declared.plan.DeviceResult.{DeviceResult}
use Rattle.cluster.specs.declared.state.ClaimState.{ClaimState}
use Rattle.cluster.specs.declared.state.Granted.{Granted}
use Rattle.cluster.specs.declared.state.State.{State}
use Rattle.cluster.specs.Tables.{changed_at}

abbrev pub result_of : StatusResult → DeviceResult
result_of r = record { name = r.request; device = r.device; admin = r.admin }

-- the results on their node, for others to see
abbrev pub status_grant : ClaimStatus → Granted
status_grant status = record { node = status.node; results = map result_of status.results; published = true }

-- the claim with this grant
abbrev pub adopted_by : ℕ → ClaimStatus → ClaimState → ClaimState
adopted_by index status c = record c { claim = record c.claim { version = index }; grant = Some (status_grant status) }

abbrev pub with_adopted : ℕ → Key → ClaimStatus → State → State
with_adopted index claim status s = record s { claims = changed_at claim (adopted_by index status) s.claims }

-- its job is ended
abbrev pub adopted_leaves : ℕ → JobState
adopted_leaves index = job_state.Ended index
