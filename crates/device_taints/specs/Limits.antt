-- The limits that the taints and tolerations keep which are read (API reference of
-- resource.k8s.io/v1).
use Rattle.std.specs.Prelude.{◌≡◌, ◌≤◌, List, [], length}
use Rattle.std.specs.List.{AllByRecursion}
use Rattle.device_taints.specs.Reading.{key_most, taints_most, tolerations_most, value_most}
use Rattle.device_taints.specs.declared.types.Taint.{Taint}
use Rattle.device_taints.specs.declared.types.Toleration.{Toleration}
use Rattle.device_taints.specs.declared.types.TolerationOperator.TheVariants.{Exists}

pub record TaintKept (taint : Taint) : Type 0 where
  pub some_key : 1 ≤ length taint.key
  pub short_key : length taint.key ≤ key_most
  pub short_value : length taint.value ≤ value_most

pub record TaintsKept (taints : List Taint) : Type 0 where
  pub few : length taints ≤ taints_most
  pub each_kept : AllByRecursion TaintKept taints

-- without a key the operator is Exists
pub record TolerationKept (toleration : Toleration) : Type 0 where
  pub keyless : toleration.key ≡ [] → toleration.operator ≡ Exists

pub record TolerationsKept (tolerations : List Toleration) : Type 0 where
  pub few : length tolerations ≤ tolerations_most
  pub each_kept : AllByRecursion TolerationKept tolerations
