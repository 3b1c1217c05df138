-- What the kubelet is told of a claim of a state.
use Rattle.std.specs.Prelude.{◌≡◌, ℕ, Bool, true, false, List, [], ◌∷◌, map, Option, None, Some, if◌then◌else◌}
use Rattle.std.specs.List.{AllByRecursion}
use Rattle.std.specs.Option.{option_map}
use Rattle.object_fields.specs.declared.key.DeviceId.{DeviceId}
use Rattle.object_fields.specs.declared.key.Key.{Key}
use Rattle.pool_view.specs.Names.{at_key}
use Rattle.cluster.specs.declared.plan.DeviceResult.{DeviceResult}
use Rattle.cluster.specs.declared.state.ClaimState.{ClaimState}
use Rattle.cluster.specs.declared.state.Granted.{Granted}
use Rattle.cluster.specs.declared.state.PodState.{PodState}
use Rattle.cluster.specs.declared.state.State.{State}
use Rattle.cluster.specs.declared.state.Use.{Use}
use Rattle.cluster.specs.declared.state.Use.TheVariants.{Assumed, Written}
use Rattle.ckpt_journal.specs.Names.{DeviceReadsBack, KeyReadsBack}
use Rattle.prepare_core.specs.declared.claim.ClaimForNode.{ClaimForNode}
use Rattle.api_print.specs.Metadata.{uid_text}

-- the use is written
abbrev pub is_of_written : Use → Bool
is_of_written (Assumed seen) = false
is_of_written Written = true

-- the pods whose use of a claim is written, in the order of their keys
abbrev pub written_pods : List (Key × Use) → List Key
written_pods [] = []
written_pods (u ∷ users) = if is_of_written u.1 then u.0 ∷ written_pods users else written_pods users

abbrev pub device_of : DeviceResult → DeviceId
device_of r = r.device

-- the devices of a grant, one per result, in order
abbrev pub granted_devices : Option Granted → List DeviceId
granted_devices None = []
granted_devices (Some g) = map device_of g.results

abbrev pub node_of : Granted → List ℕ
node_of g = g.node

-- a claim: its uid, the node and the devices of its grant if it has one, and the pods whose use of it is written
abbrev pub for_node : Key → ClaimState → ClaimForNode
for_node k c = record { uid = uid_text c.claim.uid; key = k; node = option_map node_of c.grant; pods = written_pods c.users; devices = granted_devices c.grant }

-- the key of each pod and claim that is there, and the device ids of each grant, are those that their printed forms read
-- as
pub record ReadsBack (s : State) : Type 0 where
  pub pods : (k : Key) (p : PodState) → at_key s.pods k ≡ Some p → KeyReadsBack k
  pub claims : (k : Key) (c : ClaimState) → at_key s.claims k ≡ Some c → KeyReadsBack k
  pub devices : (k : Key) (c : ClaimState) → at_key s.claims k ≡ Some c → AllByRecursion DeviceReadsBack (granted_devices c.grant)
