-- The object that a document of an object kind is.
use Rattle.std.specs.Prelude.{Result, Ok}
use Rattle.serde_json.specs.Data.{Data}
use Rattle.object_fields.specs.Fields.{◌>>=◌}
use Rattle.object_fields.specs.declared.error.FieldError.{FieldError}
use Rattle.api_slice.specs.Slices.{slice_of}
use Rattle.api_claim.specs.Claims.{claim_of}
use Rattle.api_cluster.specs.Classes.{class_of}
use Rattle.api_cluster.specs.Nodes.{node_of}
use Rattle.api_cluster.specs.Pods.{pod_of}
use Rattle.cluster.specs.declared.object.Object.{Object}
use Rattle.cluster.specs.declared.object.Object.TheVariants as object
use Rattle.cluster.specs.Ready.{ready_of}
use Rattle.commands.specs.declared.document.ObjectKind.{ObjectKind}
use Rattle.commands.specs.declared.document.ObjectKind.TheVariants.{ResourceSlice, DeviceClass, ResourceClaim, Node, Pod}

-- the object, or the first error of its fields
abbrev pub object_of : ObjectKind → Data → Result Object FieldError
object_of ResourceSlice d = slice_of d >>= λ x. Ok (object.Slice x)
object_of DeviceClass d = class_of d >>= λ x. Ok (object.Class x)
object_of ResourceClaim d = claim_of d >>= λ x. Ok (object.Claim x)
object_of Node d = node_of d >>= λ x. Ok (object.Node x)
object_of Pod d = pod_of d >>= λ x. Ok (object.Pod x)

-- the object, if it reads and its selectors compile, or the first error: that of a field comes
-- before those of the selectors
abbrev pub ready_object : ObjectKind → Data → Result Object FieldError
ready_object kind d = object_of kind d >>= ready_of
