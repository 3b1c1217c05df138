-- The devices that claims hold.
use Rattle.std.specs.Prelude.{ℕ, ◌<◌, ◌≡◌, ◌≢◌, List, [], ◌∷◌, Bool, not, Option, None, Some, map, slice_get, if◌then◌else◌}
use Rattle.std.specs.List.{flat_map, list_any}
use Rattle.object_fields.specs.declared.key.DeviceId.{DeviceId}
use Rattle.object_fields.specs.declared.key.Key.{Key}
use Rattle.pool_view.specs.Names.{device_eq}
use Rattle.cluster.specs.declared.plan.DeviceResult.{DeviceResult}
use Rattle.cluster.specs.declared.state.Granted.{Granted}
use Rattle.cluster.specs.declared.state.State.{State}

-- the devices of results without admin access
abbrev pub devices_held : List DeviceResult → List DeviceId
devices_held [] = []
devices_held (r ∷ rs) = if r.admin then devices_held rs else r.device ∷ devices_held rs

abbrev pub held_by : Option Granted → List DeviceId
held_by None = []
held_by (Some g) = devices_held g.results

-- the devices that claims hold, each with its claim, whether or not a slice still has them
unfoldable pub held : State → List (DeviceId × Key)
held s = flat_map (λ e. map (λ d. (d, e.0)) (held_by e.1.grant)) s.claims

-- no claim holds the device
unfoldable pub is_free : State → DeviceId → Bool
is_free s d = not (list_any (λ h. device_eq h.0 d) (held s))

-- The devices that the claims hold differ: no device is held twice, by two claims or by one.
pub record HeldOnce (s : State) : Type 0 where
  pub apart : (i j : ℕ) (p q : DeviceId × Key) → i < j → slice_get (held s) i ≡ Some p → slice_get (held s) j ≡ Some q → p.0 ≢ q.0
