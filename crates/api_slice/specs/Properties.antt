-- The attributes and the capacities of a device, and what holds of them in each device (KEP 4381, API
-- reference of resource.k8s.io/v1).
use Rattle.std.specs.Prelude.{◌≡◌, ℕ, ◌+◌, ◌≤◌, ℤ, Bool, true, List, [], ◌∷◌, length}
use Rattle.std.specs.List.{All}
use Rattle.std.specs.Map.{keys_of, values_of}
use Rattle.std.specs.Str.{chars}
pub use Rattle.object_fields.specs.Qualified.{IsFullName}
use Rattle.object_fields.specs.declared.qualified.QualName.{QualName}
use Rattle.api_slice.specs.Attributes.{chars_most, is_version}
use Rattle.api_slice.specs.Capacity.{together_most}
use Rattle.api_slice.specs.declared.types.Attribute.{Attribute}
use Rattle.api_slice.specs.declared.types.Attribute.TheVariants as attribute

-- the attributes and the capacities by their full names
pub record PropertyTables : Type 0 where
  pub attributes : List (QualName × Attribute)
  pub capacity : List (QualName × ℤ)

-- how many characters the text of a string or of a version has
abbrev pub char_count : Attribute → ℕ
char_count (attribute.Int n) = 0
char_count (attribute.Bool b) = 0
char_count (attribute.Text text) = length (chars text)
char_count (attribute.Version text) = length (chars text)

-- whether a version is one of Semantic Versioning 2.0.0; true for the other kinds
abbrev pub reads : Attribute → Bool
reads (attribute.Int n) = true
reads (attribute.Bool b) = true
reads (attribute.Text text) = true
reads (attribute.Version text) = is_version text

-- strings and versions have at most 64 characters, and versions read
pub record IsValue (a : Attribute) : Type 0 where
  pub size : char_count a ≤ chars_most
  pub version : reads a ≡ true

-- of one device
pub record AreProperties (p : PropertyTables) : Type 0 where
  pub attribute_names : All IsFullName (keys_of p.attributes)
  pub attribute_values : All IsValue (values_of p.attributes)
  pub capacity_names : All IsFullName (keys_of p.capacity)
  pub together : length p.attributes + length p.capacity ≤ together_most

-- attributes and capacities of devices, each list in the order of the devices
abbrev pub ArePaired : List (List (QualName × Attribute)) → List (List (QualName × ℤ)) → Type 0
ArePaired [] capacity = Unit {0}
ArePaired (a ∷ attributes) [] = Unit {0}
ArePaired (a ∷ attributes) (c ∷ capacity) =
    AreProperties (record { attributes = a; capacity = c }) × ArePaired attributes capacity
