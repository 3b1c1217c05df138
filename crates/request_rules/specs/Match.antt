-- What a request evaluates to for a device: the selectors of its class, and then its own.
use Rattle.std.specs.Prelude.{ℕ, List, ◌++◌, Option, None, Some}
use Rattle.api_claim.specs.declared.types.DeviceAsk.{DeviceAsk}
use Rattle.api_cluster.specs.declared.types.DeviceClass.{DeviceClass}
use Rattle.cel_value.specs.Device.{Device}
use Rattle.pool_view.specs.declared.matching.Match.{Match}
use Rattle.pool_view.specs.declared.matching.Match.TheVariants.{No}
use Rattle.pool_view.specs.Devices.{device_of}
use Rattle.pool_view.specs.Match.{match_from}
use Rattle.pool_view.specs.declared.stored.Stored.{Stored}
use Rattle.pool_view.specs.Names.{at_name}
use Rattle.pool_view.specs.Pools.{Offered}

-- the classes that exist, by name
abbrev pub ClassTable : Type 0
ClassTable = List (List ℕ × Stored DeviceClass)

-- the device as selectors see it
abbrev pub seen : Offered → Device
seen o = device_of o.slice.driver o.device.properties

-- No device is of a class that doesn't exist.
abbrev pub match_class : Option (Stored DeviceClass) → List (List ℕ) → Device → Match
match_class None own device = No
match_class (Some c) own device = match_from device 0 (c.object.selectors ++ own)

-- what the class's selectors and then the ask's evaluate to for a device
abbrev pub matched_by : ClassTable → DeviceAsk → Offered → Match
matched_by classes a o = match_class (at_name classes a.class) a.selectors (seen o)
