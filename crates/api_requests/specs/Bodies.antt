-- Whether the body of a request is an object of the path's kind, name and namespace.
use Rattle.std.specs.Prelude.{ℕ, ◌&&◌, ◌||◌, not, is_none, Bool, true, false, List, Option, Some, None, codes, option_and_then, option_map, if◌then◌else◌}
use Rattle.std.specs.Str.{bytes_eq}
use Rattle.serde_json.specs.Data.{Data, null, boolean, number, string, array, object, put}
use Rattle.serde_json.specs.Find.{get, as_str}
use Rattle.object_fields.specs.Fields.{member_of}
use Rattle.object_fields.specs.declared.key.Key.{Key}
use Rattle.api_routes.specs.declared.kind.Kind.{Kind}
use Rattle.api_routes.specs.declared.kind.Kind.TheVariants.{Node, ResourceSlice, DeviceClass, ResourceClaim, Pod}

-- ---- kinds

abbrev pub version_word : Kind → List ℕ
version_word Node = codes "v1"
version_word ResourceSlice = codes "resource.k8s.io/v1"
version_word DeviceClass = codes "resource.k8s.io/v1"
version_word ResourceClaim = codes "resource.k8s.io/v1"
version_word Pod = codes "v1"

abbrev pub kind_word : Kind → List ℕ
kind_word Node = codes "Node"
kind_word ResourceSlice = codes "ResourceSlice"
kind_word DeviceClass = codes "DeviceClass"
kind_word ResourceClaim = codes "ResourceClaim"
kind_word Pod = codes "Pod"

abbrev pub is_namespaced : Kind → Bool
is_namespaced Node = false
is_namespaced ResourceSlice = false
is_namespaced DeviceClass = false
is_namespaced ResourceClaim = true
is_namespaced Pod = true

abbrev pub is_word : Option (List ℕ) → List ℕ → Bool
is_word None text = false
is_word (Some word) text = bytes_eq word text

-- there is a value, and it is this text
abbrev pub is_text : Option Data → List ℕ → Bool
is_text None text = false
is_text (Some d) text = is_word (as_str d) text

-- the document is an object of this kind, by its `apiVersion` and `kind`
abbrev pub is_kind : Kind → Data → Bool
is_kind kind d = is_text (get (codes "apiVersion") d) (version_word kind) && is_text (get (codes "kind") d) (kind_word kind)

-- ---- names

-- a member of the metadata that isn't null
abbrev pub meta_member : List ℕ → Data → Option Data
meta_member name d = option_and_then (member_of name) (get (codes "metadata") d)

abbrev pub has_name : List ℕ → Data → Bool
has_name name d = is_text (meta_member (codes "name") d) name

abbrev pub lacks_namespace : Data → Bool
lacks_namespace d = is_none (meta_member (codes "namespace") d)

-- the namespace is this one, or is missing, or objects of the kind have none
abbrev pub fits_namespace : Kind → List ℕ → Data → Bool
fits_namespace kind namespace d =
    not (is_namespaced kind) || lacks_namespace d || is_text (meta_member (codes "namespace") d) namespace

-- the document is an object of this kind and namespace
abbrev pub belongs : Kind → List ℕ → Data → Bool
belongs kind namespace d = is_kind kind d && fits_namespace kind namespace d

-- the document is the object of this kind and key
abbrev pub is_object : Kind → Key → Data → Bool
is_object kind key d = belongs kind key.namespace d && has_name key.name d

-- ---- a missing namespace

-- an object with one more member or another; another value stays
abbrev pub with_member : List ℕ → Data → Data → Data
with_member key x null = null
with_member key x (boolean b) = boolean b
with_member key x (number n) = number n
with_member key x (string s) = string s
with_member key x (array ds) = array ds
with_member key x (object ms) = object (put key x ms)

-- the metadata with this namespace, if there is metadata
abbrev pub named_metadata : List ℕ → Data → Option Data
named_metadata namespace d = option_map (with_member (codes "namespace") (string namespace)) (get (codes "metadata") d)

abbrev pub with_metadata : Data → Option Data → Data
with_metadata d None = d
with_metadata d (Some metadata) = with_member (codes "metadata") metadata d

-- the document with this namespace in its metadata
abbrev pub named : List ℕ → Data → Data
named namespace d = with_metadata d (named_metadata namespace d)

-- a missing namespace is the path's
abbrev pub in_namespace : Kind → List ℕ → Data → Data
in_namespace kind namespace d = if is_namespaced kind && lacks_namespace d then named namespace d else d
