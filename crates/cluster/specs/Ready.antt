-- Objects whose selectors compile.
use Rattle.std.specs.Prelude.{◌≡◌, Result, Ok, Err}
use Rattle.object_fields.specs.Fields.{UnlessMemory, ◌>>=◌}
use Rattle.object_fields.specs.declared.error.FieldError.{FieldError}
use Rattle.cluster.specs.Limits.{ObjectKept}
use Rattle.cluster.specs.declared.kept.Kept.{Kept}
use Rattle.cluster.specs.declared.kept.Kept.TheVariants as kept
use Rattle.cluster.specs.declared.object.Object.{Object}
use Rattle.cluster.specs.declared.object.Object.TheVariants as object
use Rattle.ready_objects.specs.Ready.{class_ready, claim_ready}

-- the object, if its selectors compile, or the error of the first that doesn't
abbrev pub ready_of : Object → Result Object FieldError
ready_of (object.Node x) = Ok (object.Node x)
ready_of (object.Slice x) = Ok (object.Slice x)
ready_of (object.Class x) = class_ready x >>= λ y. Ok (object.Class y)
ready_of (object.Claim x) = claim_ready x >>= λ y. Ok (object.Claim y)
ready_of (object.Pod x) = Ok (object.Pod x)

-- the object that the state keeps with its compiled selectors
abbrev pub object_of : Kept → Object
object_of (kept.Node x) = object.Node x
object_of (kept.Slice x) = object.Slice x
object_of (kept.Class x) = object.Class x
object_of (kept.Claim x) = object.Claim x
object_of (kept.Pod x) = object.Pod x

-- each selector of the object compiles, and the object keeps its limits
pub record IsReady (x : Object) : Type 0 where
  pub ready : ready_of x ≡ Ok x
  pub limits : ObjectKept x

-- an object, and the same as the state keeps it
pub record ArePart (x : Object) (kept : Kept) : Type 0 where
  pub same : object_of kept ≡ x
  pub ready : IsReady x

-- What is kept of an object is the object, if its selectors compile, unless memory ran out.
abbrev pub Keeps : Object → Result Kept FieldError → Type 0
Keeps x (Ok kept) = ArePart x kept
Keeps x (Err e) = UnlessMemory e.kind (ready_of x ≡ Err e)
