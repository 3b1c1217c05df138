-- The limits and name rules that each node, class and pod keeps which is read (API references of v1
-- and of resource.k8s.io/v1). Labels, selectors and the names of a pod's claims are any texts.
use Rattle.std.specs.Prelude.{ℕ, ◌≤◌, length}
use Rattle.object_fields.specs.Limits.{KeyKept, NameKept, VersionKept}
use Rattle.object_fields.specs.Selectors.{selectors_most}
use Rattle.object_fields.specs.declared.meta.Scope.TheVariants.{Namespaced}
use Rattle.api_cluster.specs.Fields.{NodeFields, ClassFields, PodFields}

-- a pod has at most 32 claims
abbrev pub claims_most : ℕ
claims_most = 32

pub record NodeKept (node : NodeFields) : Type 0 where
  pub name : NameKept node.name
  pub version : VersionKept node.version

pub record ClassKept (class : ClassFields) : Type 0 where
  pub name : NameKept class.name
  pub version : VersionKept class.version
  pub selectors : length class.selectors ≤ selectors_most

pub record PodKept (pod : PodFields) : Type 0 where
  pub key : KeyKept Namespaced pod.key
  pub version : VersionKept pod.version
  pub claims : length pod.claims ≤ claims_most
