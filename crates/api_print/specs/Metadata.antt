-- How the metadata of an object is printed, and the object around its parts (ObjectMeta of the Kubernetes
-- API reference).
use Rattle.std.specs.Prelude.{ℕ, ◌-◌, false, List, ◌++◌, Option, codes, decimal, length, replicate}
use Rattle.std.specs.Fmt.{digits}
use Rattle.serde_json.specs.Data.{Data, string, object, no_members, member}
use Rattle.object_fields.specs.declared.key.Key.{Key}
use Rattle.api_print.specs.Shapes.{member_if, own_text, table_if}

-- leading zeros before fewer than twelve digits
abbrev pub twelve : List ℕ → List ℕ
twelve numeral = replicate (12 - length numeral) 48 ++ numeral

-- the uid of what the entry at an index created: its last part is the index in lower-case hexadecimal digits
unfoldable pub uid_text : ℕ → List ℕ
uid_text place = codes "00000000-0000-4000-8000-" ++ twelve (digits 16 false place)

-- a label is a text at its key
abbrev pub labels_if : List (List ℕ × List ℕ) → Option Data
labels_if labels = table_if own_text string labels

-- of an object without namespace: labels if there are any, the name, the version and the uid
abbrev pub metadata_json : Option Data → List ℕ → ℕ → ℕ → Data
metadata_json labels name version uid =
    object (member_if (codes "labels") labels
    (member (codes "name") (string name)
    (member (codes "resourceVersion") (string (decimal version))
    (member (codes "uid") (string (uid_text uid)) no_members))))

-- of an object with a namespace
abbrev pub key_metadata_json : Key → ℕ → ℕ → Data
key_metadata_json key version uid =
    object (member (codes "name") (string key.name)
    (member (codes "namespace") (string key.namespace)
    (member (codes "resourceVersion") (string (decimal version))
    (member (codes "uid") (string (uid_text uid)) no_members))))

-- apiVersion and kind, the metadata, and the spec and the status if there are any
abbrev pub object_json : List ℕ → List ℕ → Data → Option Data → Option Data → Data
object_json version kind metadata spec status =
    object (member (codes "apiVersion") (string version)
    (member (codes "kind") (string kind)
    (member (codes "metadata") metadata
    (member_if (codes "spec") spec
    (member_if (codes "status") status no_members)))))

-- the API versions of the five kinds
abbrev pub core_version : List ℕ
core_version = codes "v1"

abbrev pub resource_version : List ℕ
resource_version = codes "resource.k8s.io/v1"
