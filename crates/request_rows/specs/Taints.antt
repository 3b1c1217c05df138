-- Which devices what is asked for tolerates.
use Rattle.std.specs.Prelude.{ℕ, List, [], ◌∷◌, Bool, true, false, Option, None, Some, slice_get, if◌then◌else◌}
use Rattle.std.specs.List.{list_any}
use Rattle.api_claim.specs.declared.types.DeviceAsk.{DeviceAsk}
use Rattle.device_taints.specs.Tolerating.{are_tolerated}
use Rattle.device_taints.specs.declared.types.Taint.{Taint}
use Rattle.pool_view.specs.Pools.{Offered}

abbrev pub has_any : List Taint → Bool
has_any [] = false
has_any (t ∷ ts) = true

abbrev pub is_tainted : Offered → Bool
is_tainted o = has_any o.device.taints

-- the devices, if one of them has a taint
abbrev pub if_tainted : List Offered → List Offered
if_tainted devices = if list_any is_tainted devices then devices else []

abbrev pub tolerates_device : DeviceAsk → Offered → Bool
tolerates_device a o = are_tolerated a.tolerations o.device.taints

-- true of a position without a flag
abbrev pub flag_got : Option Bool → Bool
flag_got None = true
flag_got (Some tolerated) = tolerated

abbrev pub flag_at : List Bool → (position : ℕ) → Bool
flag_at flags position = flag_got (slice_get flags position)
