-- When two claims have the same spec, and two pods the same claims.
use Rattle.std.specs.Prelude.{◌==◌, Bool, true, false, not, ◌&&◌, Option, None, Some, if◌then◌else◌}
use Rattle.std.specs.Cmp.Lexicographic.{pointwise}
use Rattle.api_claim.specs.declared.types.AllocationMode.{AllocationMode}
use Rattle.api_claim.specs.declared.types.AllocationMode.TheVariants.{ExactCount, All}
use Rattle.api_claim.specs.declared.types.DeviceAsk.{DeviceAsk}
use Rattle.api_claim.specs.declared.types.DeviceConstraint.{DeviceConstraint}
use Rattle.api_claim.specs.declared.types.DeviceRequest.{DeviceRequest}
use Rattle.api_claim.specs.declared.types.DeviceSubRequest.{DeviceSubRequest}
use Rattle.api_claim.specs.declared.types.ExactDeviceRequest.{ExactDeviceRequest}
use Rattle.api_claim.specs.declared.types.RequestKind.{RequestKind}
use Rattle.api_claim.specs.declared.types.RequestKind.TheVariants.{Exactly, FirstAvailable}
use Rattle.api_claim.specs.declared.types.ResourceClaim.{ResourceClaim}
use Rattle.api_cluster.specs.declared.types.Pod.{Pod}
use Rattle.api_cluster.specs.declared.types.PodResourceClaim.{PodResourceClaim}
use Rattle.device_taints.specs.Tolerating.{effect_eq}
use Rattle.device_taints.specs.declared.types.TaintEffect.{TaintEffect}
use Rattle.device_taints.specs.declared.types.Toleration.{Toleration}
use Rattle.device_taints.specs.declared.types.TolerationOperator.{TolerationOperator}
use Rattle.device_taints.specs.declared.types.TolerationOperator.TheVariants.{Equal, Exists}
use Rattle.object_fields.specs.declared.qualified.QualName.{QualName}
use Rattle.pool_view.specs.Names.{text_eq}

abbrev pub same_mode : AllocationMode → AllocationMode → Bool
same_mode (ExactCount n) (ExactCount m) = n == m
same_mode (ExactCount n) All = false
same_mode All (ExactCount m) = false
same_mode All All = true

abbrev pub same_effects : Option TaintEffect → Option TaintEffect → Bool
same_effects None None = true
same_effects None (Some f) = false
same_effects (Some e) None = false
same_effects (Some e) (Some f) = effect_eq e f

abbrev pub same_operator : TolerationOperator → TolerationOperator → Bool
same_operator (Equal a) (Equal b) = text_eq a b
same_operator (Equal a) Exists = false
same_operator Exists (Equal b) = false
same_operator Exists Exists = true

abbrev pub same_toleration : Toleration → Toleration → Bool
same_toleration a b = text_eq a.key b.key && (same_operator a.operator b.operator && same_effects a.effect b.effect)

abbrev pub same_ask : DeviceAsk → DeviceAsk → Bool
same_ask a b =
    text_eq a.class b.class
    && (pointwise text_eq a.selectors b.selectors
    && (same_mode a.mode b.mode && pointwise same_toleration a.tolerations b.tolerations))

abbrev pub same_truth : Bool → Bool → Bool
same_truth a b = if a then b else not b

abbrev pub same_exactly : ExactDeviceRequest → ExactDeviceRequest → Bool
same_exactly a b = same_ask a.ask b.ask && same_truth a.admin b.admin

abbrev pub same_subrequest : DeviceSubRequest → DeviceSubRequest → Bool
same_subrequest a b = text_eq a.name b.name && same_ask a.ask b.ask

abbrev pub same_kind : RequestKind → RequestKind → Bool
same_kind (Exactly a) (Exactly b) = same_exactly a b
same_kind (Exactly a) (FirstAvailable bs) = false
same_kind (FirstAvailable xs) (Exactly b) = false
same_kind (FirstAvailable xs) (FirstAvailable bs) = pointwise same_subrequest xs bs

abbrev pub same_request : DeviceRequest → DeviceRequest → Bool
same_request a b = text_eq a.name b.name && same_kind a.kind b.kind

abbrev pub same_attribute : QualName → QualName → Bool
same_attribute a b = text_eq a.domain b.domain && text_eq a.id b.id

abbrev pub same_constraint : DeviceConstraint → DeviceConstraint → Bool
same_constraint a b = pointwise text_eq a.requests b.requests && same_attribute a.attribute b.attribute

-- the claims ask for the same
unfoldable pub same_spec : ResourceClaim → ResourceClaim → Bool
same_spec a b = pointwise same_request a.requests b.requests && pointwise same_constraint a.constraints b.constraints

abbrev pub same_pod_claim : PodResourceClaim → PodResourceClaim → Bool
same_pod_claim a b = text_eq a.name b.name && text_eq a.claim b.claim

-- the pods name the same claims
unfoldable pub same_pod_claims : Pod → Pod → Bool
same_pod_claims a b = pointwise same_pod_claim a.claims b.claims
