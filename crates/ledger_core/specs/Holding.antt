-- What results that are given to claims, and grants that go, leave of the claims that hold devices.
use Rattle.std.specs.Prelude.{List, [], ◌∷◌, Option, None, Some, if◌then◌else◌}
use Rattle.object_fields.specs.declared.key.DeviceId.{DeviceId}
use Rattle.object_fields.specs.declared.key.Key.{Key}
use Rattle.pool_view.specs.Names.{device_eq}
use Rattle.cluster.specs.declared.plan.DeviceResult.{DeviceResult}
use Rattle.cluster.specs.declared.plan.Grant.{Grant}
use Rattle.cluster.specs.declared.state.Granted.{Granted}

-- ---- devices that are given

-- the holder of a device, of which this was the holder before a claim was given the result
abbrev pub given_one : Key → DeviceResult → DeviceId → Option Key → Option Key
given_one claim r id old = if r.admin then old else (if device_eq r.device id then Some claim else old)

-- the same for one result after another
abbrev pub given_to : Key → List DeviceResult → DeviceId → Option Key → Option Key
given_to claim [] id old = old
given_to claim (r ∷ rs) id old = given_to claim rs id (given_one claim r id old)

-- the same for one grant after another
abbrev pub given_each : List Grant → DeviceId → Option Key → Option Key
given_each [] id old = old
given_each (g ∷ gs) id old = given_each gs id (given_to g.claim g.results id old)

-- ---- devices that are given back

-- the holder of a device, of which this was the holder before the result's device was given back
abbrev pub left_one : DeviceResult → DeviceId → Option Key → Option Key
left_one r id old = if r.admin then old else (if device_eq r.device id then None else old)

abbrev pub left_of : List DeviceResult → DeviceId → Option Key → Option Key
left_of [] id old = old
left_of (r ∷ rs) id old = left_of rs id (left_one r id old)

abbrev pub left_by : List Granted → DeviceId → Option Key → Option Key
left_by [] id old = old
left_by (g ∷ gs) id old = left_by gs id (left_of g.results id old)
