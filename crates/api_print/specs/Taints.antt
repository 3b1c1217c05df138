-- How the taints of devices and the tolerations of requests are printed (API reference of
-- resource.k8s.io/v1).
use Rattle.std.specs.Prelude.{ℕ, List, Option, Some, None, codes}
use Rattle.serde_json.specs.Data.{Data, string, object, no_members, member}
use Rattle.device_taints.specs.declared.types.Taint.{Taint}
use Rattle.device_taints.specs.declared.types.TaintEffect.{TaintEffect}
use Rattle.device_taints.specs.declared.types.TaintEffect.TheVariants.{NoSchedule, NoExecute}
use Rattle.device_taints.specs.declared.types.Toleration.{Toleration}
use Rattle.device_taints.specs.declared.types.TolerationOperator.{TolerationOperator}
use Rattle.device_taints.specs.declared.types.TolerationOperator.TheVariants.{Equal, Exists}
use Rattle.api_print.specs.Shapes.{list_if, member_if, text_if}

abbrev pub effect_text : TaintEffect → List ℕ
effect_text NoSchedule = codes "NoSchedule"
effect_text NoExecute = codes "NoExecute"

-- ---- taints

abbrev pub taint_json : Taint → Data
taint_json t =
    object (member (codes "effect") (string (effect_text t.effect))
    (member (codes "key") (string t.key)
    (member_if (codes "value") (text_if t.value) no_members)))

-- taints, left out if there are none
abbrev pub taints_if : List Taint → Option Data
taints_if taints = list_if taint_json taints

-- ---- tolerations

abbrev pub effect_if : Option TaintEffect → Option Data
effect_if None = None
effect_if (Some effect) = Some (string (effect_text effect))

-- the operator is printed even if it is Equal
abbrev pub operator_name : TolerationOperator → List ℕ
operator_name (Equal value) = codes "Equal"
operator_name Exists = codes "Exists"

-- Exists has no value
abbrev pub value_if : TolerationOperator → Option Data
value_if (Equal value) = text_if value
value_if Exists = None

abbrev pub toleration_json : Toleration → Data
toleration_json k =
    object (member_if (codes "effect") (effect_if k.effect)
    (member_if (codes "key") (text_if k.key)
    (member (codes "operator") (string (operator_name k.operator))
    (member_if (codes "value") (value_if k.operator) no_members))))

-- tolerations, left out if there are none
abbrev pub tolerations_if : List Toleration → Option Data
tolerations_if tolerations = list_if toleration_json tolerations
