-- The limits and name rules that the metadata of each object keeps which is read (ObjectMeta of the
-- Kubernetes API reference).
use Rattle.std.specs.Prelude.{◌≡◌, ℕ, ◌≤◌, ◌^◌, ◌-◌, true, List, [], length, Option, IfSome}
use Rattle.object_fields.specs.Meta.{name_most}
use Rattle.object_fields.specs.Names.{is_dns_label, is_dns_name}
use Rattle.object_fields.specs.declared.key.Key.{Key}
use Rattle.object_fields.specs.declared.meta.ObjectMeta.{ObjectMeta}
use Rattle.object_fields.specs.declared.meta.Scope.{Scope}
use Rattle.object_fields.specs.declared.meta.Scope.TheVariants.{Namespaced, Cluster}

-- a DNS subdomain of at most 253 bytes
pub record NameKept (name : List ℕ) : Type 0 where
  pub size : length name ≤ name_most
  pub form : is_dns_name name ≡ true

-- an object has a namespace if its kind has them
abbrev pub NamespaceKept : Scope → List ℕ → Type 0
NamespaceKept Namespaced namespace = is_dns_label namespace ≡ true
NamespaceKept Cluster namespace = namespace ≡ []

pub record KeyKept (scope : Scope) (key : Key) : Type 0 where
  pub name : NameKept key.name
  pub namespace : NamespaceKept scope key.namespace

-- a number of 64 bits, where there is one
abbrev pub VersionKept : Option ℕ → Type 0
VersionKept version = IfSome version (λ n. n ≤ 2 ^ 64 - 1)

pub record MetaKept (scope : Scope) (meta : ObjectMeta) : Type 0 where
  pub key : KeyKept scope meta.key
  pub version : VersionKept meta.version
