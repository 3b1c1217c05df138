-- What contracts see of a node, a class and a pod.
use Rattle.std.specs.Prelude.{ℕ, List, Option}
use Rattle.object_fields.specs.declared.key.Key.{Key}
use Rattle.api_cluster.specs.declared.types.PodResourceClaim.{PodResourceClaim}

pub record NodeFields : Type 0 where
  pub name : List ℕ
  pub version : Option ℕ
  pub labels : List (List ℕ × List ℕ)

pub record ClassFields : Type 0 where
  pub name : List ℕ
  pub version : Option ℕ
  pub selectors : List (List ℕ)

pub record PodFields : Type 0 where
  pub key : Key
  pub version : Option ℕ
  pub claims : List PodResourceClaim
