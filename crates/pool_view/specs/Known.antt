-- What an inventory knows of selectors on its slices.
use Rattle.std.specs.Prelude.{◌≡◌, ℕ, ◌<◌, List, Bool, true, false, not, length, Option, None, Some, IfSome}
use Rattle.std.specs.List.{All, HoldsAt, list_all}
use Rattle.std.specs.Map.{keys_of}
use Rattle.api_slice.specs.declared.types.Device.{Device}
use Rattle.api_slice.specs.declared.types.ResourceSlice.{ResourceSlice}
use Rattle.pool_view.specs.declared.matching.Match.{Match}
use Rattle.pool_view.specs.declared.matching.Match.TheVariants.{Yes, No, Fault}
use Rattle.pool_view.specs.Devices.{device_of}
use Rattle.pool_view.specs.Match.{match_from}
use Rattle.pool_view.specs.declared.known.KnownList.{KnownList}
use Rattle.pool_view.specs.Inventory.{Named}
use Rattle.pool_view.specs.Names.{at_name}

abbrev pub has_error : Match → Bool
has_error Yes = false
has_error No = false
has_error (Fault place cause) = true

-- Selectors, one after another, have no evaluation error on a device of a driver's slice.
abbrev pub is_sure_of : List (List ℕ) → List ℕ → Device → Bool
is_sure_of texts driver d = not (has_error (match_from (device_of driver d.properties) 0 texts))

-- They have none on any device of the slice.
unfoldable pub is_sure : List (List ℕ) → ResourceSlice → Bool
is_sure texts s = list_all (is_sure_of texts s.driver) s.devices

-- What is kept of some selectors, by the names of slices, is so of the slices that have these names.
pub record IsKnown (slices : Named ResourceSlice) (known : KnownList) : Type 0 where
  pub so : (name : List ℕ) (sure : Bool) → at_name known.slices name ≡ Some sure
      → IfSome (at_name slices name) (λ stored. is_sure known.texts stored.object ≡ sure)

-- All that is kept is so.
pub record AreKnown (slices : Named ResourceSlice) (known : List KnownList) : Type 0 where
  pub each : All (IsKnown slices) known

-- The selectors kept at an index are these.
pub record IsListOf (known : List KnownList) (texts : List (List ℕ)) (at : ℕ) : Type 0 where
  pub within : at < length known
  pub has : HoldsAt (λ k. k.texts ≡ texts) known at

-- If all that was kept is so, and what was found of these selectors on the slice of a name is so, then all that is kept
-- is so.
pub record AddsOnly (texts : List (List ℕ)) (name : List ℕ) (sure : Bool) (old kept : List KnownList) : Type 0 where
  pub so : (slices : Named ResourceSlice) → AreKnown slices old
      → IfSome (at_name slices name) (λ stored. is_sure texts stored.object ≡ sure) → AreKnown slices kept

-- The same of a list that is so.
pub record AddsList (list : KnownList) (old kept : List KnownList) : Type 0 where
  pub so : (slices : Named ResourceSlice) → AreKnown slices old → IsKnown slices list → AreKnown slices kept

-- the selectors of a list, with the slices of the inventory that keeps it
pub record KnownFields : Type 0 where
  pub slices : Named ResourceSlice
  pub texts : List (List ℕ)

-- The listed names, if there are any, are those of the nodes.
abbrev pub AreNames : {T : Type 0} → Named T → Option (List (List ℕ)) → Type 0
AreNames nodes None = Unit {0}
AreNames nodes (Some names) = names ≡ keys_of nodes
