-- Which devices of a node are held.
use Rattle.std.specs.Prelude.{ℕ, List, [], ◌∷◌, Bool, Option, None, Some, is_some, map, slice_get}
use Rattle.std.specs.List.{flat_map, list_any}
use Rattle.object_fields.specs.declared.key.DeviceId.{DeviceId}
use Rattle.object_fields.specs.declared.key.Key.{Key}
use Rattle.pool_view.specs.Names.{device_eq}
use Rattle.pool_view.specs.Pools.{Offered, id_in}
use Rattle.counter_sets.specs.Holding as holding
use Rattle.counter_sets.specs.Holding.{holder_in}
use Rattle.request_rules.specs.Rules.{id_by}

-- the devices of a node, and those of them that claims hold
pub record Holders : Type 0 where
  pub devices : List Offered
  pub held : List (DeviceId × Key)

abbrev pub pair_by : DeviceId → Option Key → List (DeviceId × Key)
pair_by id None = []
pair_by id (Some key) = (id, key) ∷ []

-- the held ones among devices, each with its claim
unfoldable pub held_among : holding.Holders → List Offered → List (DeviceId × Key)
held_among h devices = flat_map (λ o. pair_by (id_in o) (holder_in h (id_in o))) devices

abbrev pub flags_of : holding.Holders → List Offered → List Bool
flags_of h devices = map (λ o. is_some (holder_in h (id_in o))) devices

-- a claim holds the device at the position
abbrev pub held_at : Holders → ℕ → Bool
held_at h x = list_any (λ (e : DeviceId × Key). device_eq e.0 (id_by (slice_get h.devices x))) h.held
