-- The commands that documents of objects are.
use Rattle.std.specs.Prelude.{Result, Ok, Err}
use Rattle.serde_json.specs.Data.{Data}
use Rattle.object_fields.specs.Fields.{◌>>=◌}
use Rattle.object_fields.specs.declared.error.FieldError.{FieldError}
use Rattle.object_fields.specs.declared.key.Key.{Key}
use Rattle.api_slice.specs.Slices.{slice_of}
use Rattle.api_claim.specs.Claims.{claim_of}
use Rattle.api_claim.specs.Status.{status_of}
use Rattle.api_claim.specs.declared.types.ClaimStatus.{ClaimStatus}
use Rattle.api_cluster.specs.Classes.{class_of}
use Rattle.api_cluster.specs.Nodes.{node_of}
use Rattle.api_cluster.specs.Pods.{pod_of}
use Rattle.cluster.specs.declared.entry.Mode.{Mode}
use Rattle.cluster.specs.declared.object.Object.{Object}
use Rattle.cluster.specs.declared.object.Object.TheVariants as object
use Rattle.cluster.specs.Ready.{ready_of}
use Rattle.commands.specs.declared.command.Command.{Command}
use Rattle.commands.specs.declared.command.Command.TheVariants.{Adopt, Apply, Invalid}
use Rattle.api_routes.specs.declared.kind.Kind.{Kind}
use Rattle.api_routes.specs.declared.kind.Kind.TheVariants.{Node, ResourceSlice, DeviceClass, ResourceClaim, Pod}

-- the object, or the first error of its fields
abbrev pub object_of : Kind → Data → Result Object FieldError
object_of ResourceSlice d = slice_of d >>= λ x. Ok (object.Slice x)
object_of DeviceClass d = class_of d >>= λ x. Ok (object.Class x)
object_of ResourceClaim d = claim_of d >>= λ x. Ok (object.Claim x)
object_of Node d = node_of d >>= λ x. Ok (object.Node x)
object_of Pod d = pod_of d >>= λ x. Ok (object.Pod x)

-- the object, if it reads and its selectors compile, or the first error: that of a field comes
-- before those of the selectors
abbrev pub ready_object : Kind → Data → Result Object FieldError
ready_object kind d = object_of kind d >>= ready_of

abbrev pub applied : Mode → Result Object FieldError → Command
applied mode (Ok object) = Apply object mode
applied mode (Err e) = Invalid e

-- what creates or updates the object that a document is
abbrev pub apply_of : Kind → Mode → Data → Command
apply_of kind mode d = applied mode (ready_object kind d)

abbrev pub adopted : Key → Result ClaimStatus FieldError → Command
adopted claim (Ok status) = Adopt claim status
adopted claim (Err e) = Invalid e

-- what grants the claim what the status in a document says
abbrev pub adopt_of : Key → Data → Command
adopt_of claim d = adopted claim (status_of d)
