-- A device of a slice, as selectors see it.
use Rattle.std.specs.Prelude.{ℕ, List, map, Result, Ok, Err}
use Rattle.semver.specs.Parse.{Parts, version_parts}
use Rattle.object_fields.specs.declared.qualified.QualName.{QualName}
use Rattle.api_slice.specs.declared.types.Attribute.{Attribute}
use Rattle.api_slice.specs.declared.types.Attribute.TheVariants as attribute
use Rattle.api_slice.specs.Properties.{PropertyTables}
use Rattle.cel_value.specs.declared.value.Single.{Single}
use Rattle.cel_value.specs.declared.value.Single.TheVariants as single
use Rattle.cel_value.specs.Device.{Device}

-- a version, which reads in each device
abbrev pub version_value : {E : Type 0} → Result Parts E → Single
version_value (Ok v) = single.Version v
version_value (Err e) = single.Null

abbrev pub value_of : Attribute → Single
value_of (attribute.Int n) = single.Int n
value_of (attribute.Bool b) = single.Bool b
value_of (attribute.Text s) = single.Text s
value_of (attribute.Version s) = version_value (version_parts s)

abbrev pub valued : QualName × Attribute → QualName × Single
valued e = (e.0, value_of e.1)

-- the device of that driver with these attributes and capacities
abbrev pub device_of : List ℕ → PropertyTables → Device
device_of driver p = record { driver = driver; attributes = map valued p.attributes; capacity = p.capacity }
