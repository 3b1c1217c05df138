-- Names of drivers (API reference of resource.k8s.io/v1).
use Rattle.std.specs.Prelude.{◌≡◌, ℕ, ◌≤◌, true, List, length, Option, Some, None, if◌then◌else◌}
use Rattle.object_fields.specs.Names.{is_dns_name, is_dns_subdomain}

-- a driver's name has at most 63 bytes
abbrev pub driver_most : ℕ
driver_most = 63

-- a DNS subdomain of at most 63 bytes
pub record IsDriver (name : List ℕ) : Type 0 where
  pub size : length name ≤ driver_most
  pub form : is_dns_name name ≡ true

-- the name that a text is, if it is one
abbrev pub driver_of : List ℕ → Option (List ℕ)
driver_of text = if is_dns_subdomain driver_most text then Some text else None
