-- What is read of the JSON of an object: the object, with the version that it has in the state.
use Rattle.std.specs.Prelude.{ℕ, map, Some}
use Rattle.api_claim.specs.declared.types.ClaimStatus.{ClaimStatus}
use Rattle.api_claim.specs.declared.types.ResourceClaim.{ResourceClaim}
use Rattle.api_claim.specs.declared.types.StatusResult.{StatusResult}
use Rattle.api_cluster.specs.declared.types.DeviceClass.{DeviceClass}
use Rattle.api_cluster.specs.declared.types.Node.{Node}
use Rattle.api_cluster.specs.declared.types.Pod.{Pod}
use Rattle.api_slice.specs.declared.types.ResourceSlice.{ResourceSlice}
use Rattle.cluster.specs.declared.plan.DeviceResult.{DeviceResult}
use Rattle.cluster.specs.declared.state.Granted.{Granted}
use Rattle.pool_view.specs.declared.stored.Stored.{Stored}

abbrev pub node_read : Stored Node → Node
node_read s = record { name = s.object.name; version = Some s.version; labels = s.object.labels }

abbrev pub class_read : Stored DeviceClass → DeviceClass
class_read s = record { name = s.object.name; version = Some s.version; selectors = s.object.selectors }

abbrev pub slice_read : Stored ResourceSlice → ResourceSlice
slice_read s =
    record { name = s.object.name; version = Some s.version; driver = s.object.driver; pool = s.object.pool; nodes = s.object.nodes; counters = s.object.counters; devices = s.object.devices }

abbrev pub pod_read : Stored Pod → Pod
pod_read s = record { key = s.object.key; version = Some s.version; claims = s.object.claims }

abbrev pub claim_read : Stored ResourceClaim → ResourceClaim
claim_read s =
    record { key = s.object.key; version = Some s.version; requests = s.object.requests; constraints = s.object.constraints }

-- a result of a grant as a status has it
abbrev pub result_read : DeviceResult → StatusResult
result_read r = record { request = r.name; device = r.device; admin = r.admin }

-- the grant of a claim that has a version, as a status
abbrev pub status_read : ℕ → Granted → ClaimStatus
status_read version g = record { version = Some version; node = g.node; results = map result_read g.results }
