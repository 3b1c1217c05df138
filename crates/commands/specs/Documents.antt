-- What a document is by its apiVersion and kind. The kinds of `resource.k8s.io/v1` and `v1` are
-- those of the Kubernetes API reference; the documents of `dra.replay/v1` are this project's own.
use Rattle.std.specs.Prelude.{ℕ, List, [], ◌∷◌, codes, Option, Some, None, option_and_then, if◌then◌else◌}
use Rattle.std.specs.Str.{bytes_eq}
use Rattle.serde_json.specs.Data.{Data}
use Rattle.serde_json.specs.Find.{get, as_str}
use Rattle.commands.specs.declared.document.ObjectKind.{ObjectKind}
use Rattle.commands.specs.declared.document.ObjectKind.TheVariants.{ResourceSlice, DeviceClass, ResourceClaim, Node, Pod}
use Rattle.commands.specs.declared.document.Document.{Document}
use Rattle.commands.specs.declared.document.Document.TheVariants as is

-- the row of that name
abbrev pub row_of : {A : Type 0} → List ℕ → List (List ℕ × A) → Option A
row_of name [] = None
row_of name ((word, x) ∷ rows) = if bytes_eq name word then Some x else row_of name rows

abbrev pub resource_kinds : List (List ℕ × Document)
resource_kinds =
    (codes "ResourceSlice", is.Object ResourceSlice) ∷
    (codes "DeviceClass", is.Object DeviceClass) ∷
    (codes "ResourceClaim", is.Object ResourceClaim) ∷
    []

abbrev pub core_kinds : List (List ℕ × Document)
core_kinds =
    (codes "Node", is.Object Node) ∷
    (codes "Pod", is.Object Pod) ∷
    (codes "List", is.List) ∷
    []

abbrev pub replay_kinds : List (List ℕ × Document)
replay_kinds =
    (codes "Delete", is.Delete) ∷
    (codes "Schedule", is.Schedule) ∷
    (codes "Release", is.Release) ∷
    (codes "Prepare", is.Prepare) ∷
    (codes "Unprepare", is.Unprepare) ∷
    (codes "Reopen", is.Reopen) ∷
    (codes "Together", is.Together) ∷
    []

-- the table: each apiVersion with its kinds
abbrev pub documents : List (List ℕ × List (List ℕ × Document))
documents =
    (codes "resource.k8s.io/v1", resource_kinds) ∷
    (codes "v1", core_kinds) ∷
    (codes "dra.replay/v1", replay_kinds) ∷
    []

abbrev pub kind_of : List ℕ → List ℕ → Option Document
kind_of version kind = option_and_then (row_of kind) (row_of version documents)

-- the kinds of objects by their names
abbrev pub object_kinds : List (List ℕ × ObjectKind)
object_kinds =
    (codes "ResourceSlice", ResourceSlice) ∷
    (codes "DeviceClass", DeviceClass) ∷
    (codes "ResourceClaim", ResourceClaim) ∷
    (codes "Node", Node) ∷
    (codes "Pod", Pod) ∷
    []

-- a member that is a text
abbrev pub text_at : List ℕ → Data → Option (List ℕ)
text_at name d = option_and_then as_str (get name d)

-- both are texts, and the table has them
abbrev pub document_of : Data → Option Document
document_of d =
    option_and_then (λ version. option_and_then (kind_of version) (text_at (codes "kind") d)) (text_at (codes "apiVersion") d)
