-- The grants that go, and the devices that they held.
use Rattle.std.specs.Prelude.{◌==◌, ◌&&◌, List, [], ◌∷◌, Option, None, Some, is_some, length, if◌then◌else◌}
use Rattle.std.specs.List.{flat_map}
use Rattle.object_fields.specs.declared.key.DeviceId.{DeviceId}
use Rattle.object_fields.specs.declared.key.Key.{Key}
use Rattle.pool_view.specs.Names.{at_key}
use Rattle.request_rules.specs.Lists.{add_some}
use Rattle.cluster.specs.declared.object.Target.{Target}
use Rattle.cluster.specs.declared.object.Target.TheVariants as target
use Rattle.cluster.specs.declared.state.ClaimState.{ClaimState}
use Rattle.cluster.specs.declared.state.Granted.{Granted}
use Rattle.cluster.specs.declared.state.State.{State}
use Rattle.cluster.specs.Freed.{claims_by}
use Rattle.cluster.specs.Held.{devices_held}

-- the grant of a claim whose only user is the pod
abbrev pub lost_by : Key → ClaimState → Option Granted
lost_by pod c = if is_some (at_key c.users pod) && (length c.users == 1) then c.grant else None

abbrev pub lost_at : Key → Option ClaimState → Option Granted
lost_at pod None = None
lost_at pod (Some c) = lost_by pod c

-- those of these claims
abbrev pub lost_among : Key → List (Key × ClaimState) → List Key → List Granted
lost_among pod claims [] = []
lost_among pod claims (k ∷ ks) = add_some (lost_at pod (at_key claims k)) (lost_among pod claims ks)

-- the grants that go with the uses of a pod
abbrev pub lost_with : State → Key → List Granted
lost_with s pod = lost_among pod s.claims (claims_by (at_key s.pods pod))

abbrev pub grant_at : Option ClaimState → Option Granted
grant_at None = None
grant_at (Some c) = c.grant

-- the grant that goes with an object
abbrev pub lost_of : State → Target → Option Granted
lost_of s (target.Node name) = None
lost_of s (target.Slice name) = None
lost_of s (target.Class name) = None
lost_of s (target.Claim key) = grant_at (at_key s.claims key)
lost_of s (target.Pod key) = None

-- the devices that grants hold
abbrev pub devices_of : List Granted → List DeviceId
devices_of gs = flat_map (λ g. devices_held g.results) gs
