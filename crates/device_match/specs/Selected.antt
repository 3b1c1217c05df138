-- What a selection evaluates to on a device.
use Rattle.std.specs.Prelude.{ℕ, List, [], ◌∷◌, ◌++◌, Bool, true, false, ◌||◌, Option, None, Some}
use Rattle.cel_value.specs.Device.{Device}
use Rattle.pool_view.specs.declared.matching.Match.{Match}
use Rattle.pool_view.specs.declared.matching.Match.TheVariants.{Yes, No}
use Rattle.pool_view.specs.Devices.{device_of}
use Rattle.pool_view.specs.Match.{match_from}
use Rattle.pool_view.specs.Pools.{Offered}

-- the selectors of a class, if it exists, and those of a request
pub record SelectionTexts : Type 0 where
  pub class : Option (List (List ℕ))
  pub own : List (List ℕ)

-- the device as selectors see it
abbrev pub device_in : Offered → Device
device_in o = device_of o.slice.driver o.device.properties

-- no device is of a class that doesn't exist
abbrev pub says_by : Option (List (List ℕ)) → List (List ℕ) → Device → Match
says_by None own device = No
says_by (Some class) own device = match_from device 0 (class ++ own)

abbrev pub says : Device → SelectionTexts → Match
says device s = says_by s.class s.own device

-- ---- no selectors

abbrev pub texts_in : Option (List (List ℕ)) → List (List ℕ)
texts_in None = []
texts_in (Some class) = class

abbrev pub has_any : List (List ℕ) → Bool
has_any [] = false
has_any (t ∷ ts) = true

abbrev pub has_selectors : SelectionTexts → Bool
has_selectors s = has_any s.own || has_any (texts_in s.class)

abbrev pub plain_by : Option (List (List ℕ)) → Match
plain_by None = No
plain_by (Some class) = Yes

abbrev pub plain_match : SelectionTexts → Match
plain_match s = plain_by s.class
