-- The device that a selector is about.
use Rattle.std.specs.Prelude.{◌≡◌, ℕ, ℤ, ◌+◌, nat_le, ◌&&◌, Bool, true, List, length, refl}
use Rattle.std.specs.Coded.{Coded, code_by, coded×, coded_list, coded_ℕ, coded_ℤ}
use Rattle.std.specs.List.{list_all}
use Rattle.std.specs.Map.{keys_of, values_of}
use Rattle.std.specs.Str.{chars, is_utf8}
use Rattle.object_fields.specs.declared.qualified.QualName.{QualName}
use Rattle.object_fields.specs.contracts.qualified.QualName as qual_name
use Rattle.cel_value.specs.declared.value.Single.{Single}
use Rattle.cel_value.specs.declared.value.Single.TheVariants as single
use Rattle.cel_value.specs.contracts.value.Single as single_type

-- the driver, and the attributes and capacities by their full names, in order
pub record Device : Type 0 where
  pub driver : List ℕ
  pub attributes : List (QualName × Single)
  pub capacity : List (QualName × ℤ)

abbrev pub coded_device : Coded Device
coded_device =
    code_by (List ℕ × (List (QualName × Single) × List (QualName × ℤ)))
    (coded× (coded_list coded_ℕ) (coded× (coded_list (coded× qual_name.the_row.coded single_type.the_row.coded)) (coded_list (coded× qual_name.the_row.coded coded_ℤ))))
    (λ d. (d.driver, (d.attributes, d.capacity)))
    (λ p. record { driver = p.0; attributes = p.1.0; capacity = p.1.1 })
    (λ d. refl)

-- a domain has at most 63 bytes and an id at most 32
abbrev pub is_short_name : QualName → Bool
is_short_name name = nat_le (length name.domain) 63 && nat_le (length name.id) 32

-- a text has at most 64 characters
abbrev pub is_short_text : List ℕ → Bool
is_short_text s = is_utf8 s && nat_le (length (chars s)) 64

abbrev pub is_short_value : Single → Bool
is_short_value single.Null = true
is_short_value (single.Bool b) = true
is_short_value (single.Int n) = true
is_short_value (single.Text s) = is_short_text s
is_short_value (single.Quantity n) = true
is_short_value (single.Version v) = true

-- The limits of the API reference of `resource.k8s.io/v1`: the driver has at most 63 bytes, the names
-- and texts are short, and attributes and capacities together are at most 32.
abbrev pub within_limits : Device → Bool
within_limits device =
    nat_le (length device.driver) 63
    && (list_all is_short_name (keys_of device.attributes)
    && (list_all is_short_value (values_of device.attributes)
    && (list_all is_short_name (keys_of device.capacity)
    && nat_le (length device.attributes + length device.capacity) 32)))

pub record IsWithinLimits (device : Device) : Type 0 where
  pub kept : within_limits device ≡ true
