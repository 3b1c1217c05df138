-- The limits and name rules of each kind of object (API references of v1 and of resource.k8s.io/v1).
use Rattle.api_claim.specs.Limits.{ClaimKept}
use Rattle.api_cluster.specs.Limits.{NodeKept, ClassKept, PodKept}
use Rattle.api_slice.specs.Limits.{IsWithinLimits}
use Rattle.cluster.specs.declared.object.Object.{Object}
use Rattle.cluster.specs.declared.object.Object.TheVariants as object

abbrev pub ObjectKept : Object → Type 0
ObjectKept (object.Node x) = NodeKept x
ObjectKept (object.Slice x) = IsWithinLimits x
ObjectKept (object.Class x) = ClassKept x
ObjectKept (object.Claim x) = ClaimKept x
ObjectKept (object.Pod x) = PodKept x
