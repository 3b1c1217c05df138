-- What is known of a device is true of it.
use Rattle.std.specs.Prelude.{ℕ, ◌≡◌, List, ◌++◌, Option, Some, slice_get}
use Rattle.cel_value.specs.Device.{Device}
use Rattle.pool_view.specs.Match.{match_from}
use Rattle.device_match.specs.declared.known.KnownMatch.{KnownMatch}

-- the selectors evaluate to this on the device
pub record IsTrue (device : Device) (known : KnownMatch) : Type 0 where
  pub found : known.found ≡ match_from device 0 (known.class ++ known.own)

-- so it is for each number
pub record AreTrue (device : Device) (matches : List (Option KnownMatch)) : Type 0 where
  pub each : (number : ℕ) (known : KnownMatch) → slice_get matches number ≡ Some (Some known) → IsTrue device known
