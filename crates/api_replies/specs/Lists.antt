-- Lists of objects.
use Rattle.std.specs.Prelude.{ℕ, ◌≡◌, ◌++◌, Bool, true, List, [], ◌∷◌, Option, Some, None, codes, decimal, map, if◌then◌else◌}
use Rattle.std.specs.Str.{bytes_eq}
use Rattle.std.specs.Map.{keys_of}
use Rattle.json.specs.Print.{quoted}
use Rattle.serde_json.specs.Data.{Data, string, array, object, Items, no_items, item, no_members, member}
use Rattle.serde_json.specs.Written.{comma_if, compact_text}
use Rattle.object_fields.specs.declared.key.Key.{Key}
use Rattle.cluster.specs.declared.object.Target.{Target}
use Rattle.cluster.specs.declared.object.Target.TheVariants as target
use Rattle.cluster.specs.declared.state.State.{State}
use Rattle.api_print.specs.Objects.{json_of}
use Rattle.api_routes.specs.declared.kind.Kind.{Kind}
use Rattle.api_routes.specs.declared.kind.Kind.TheVariants.{Node, ResourceSlice, DeviceClass, ResourceClaim, Pod}
use Rattle.api_replies.specs.Answers.{Answer, json}

abbrev pub version_word : Kind → List ℕ
version_word Node = codes "v1"
version_word ResourceSlice = codes "resource.k8s.io/v1"
version_word DeviceClass = codes "resource.k8s.io/v1"
version_word ResourceClaim = codes "resource.k8s.io/v1"
version_word Pod = codes "v1"

-- a kind and `List`
abbrev pub list_word : Kind → List ℕ
list_word Node = codes "NodeList"
list_word ResourceSlice = codes "ResourceSliceList"
list_word DeviceClass = codes "DeviceClassList"
list_word ResourceClaim = codes "ResourceClaimList"
list_word Pod = codes "PodList"

-- the keys of a namespace, in order
abbrev pub within : List ℕ → List Key → List Key
within namespace [] = []
within namespace (k ∷ ks) = if bytes_eq k.namespace namespace then k ∷ within namespace ks else within namespace ks

-- the objects of a kind in a namespace, in order of key
abbrev pub targets : State → Kind → List ℕ → List Target
targets s Node namespace = map target.Node (keys_of s.inventory.nodes)
targets s ResourceSlice namespace = map target.Slice (keys_of s.inventory.slices)
targets s DeviceClass namespace = map target.Class (keys_of s.classes)
targets s ResourceClaim namespace = map target.Claim (within namespace (keys_of s.claims))
targets s Pod namespace = map target.Pod (within namespace (keys_of s.pods))

abbrev pub item_if : Option Data → Items → Items
item_if None ds = ds
item_if (Some d) ds = item d ds

-- their JSON
abbrev pub items : State → List Target → Items
items s [] = no_items
items s (t ∷ ts) = item_if (json_of s t) (items s ts)

abbrev pub list_json : State → ℕ → Kind → List Target → Data
list_json s place kind ts =
    object (member (codes "apiVersion") (string (version_word kind))
    (member (codes "items") (array (items s ts))
    (member (codes "kind") (string (list_word kind))
    (member (codes "metadata") (object (member (codes "resourceVersion") (string (decimal place)) no_members)) no_members))))

unfoldable pub list_body : State → ℕ → Kind → List Target → List ℕ
list_body s place kind ts = compact_text (list_json s place kind ts)

-- the text before the items, and the text after them
abbrev pub list_head : Kind → List ℕ
list_head kind = codes "{\"apiVersion\":" ++ quoted (version_word kind) ++ codes ",\"items\":["

abbrev pub list_tail : ℕ → Kind → List ℕ
list_tail place kind =
    codes ",\"kind\":" ++ quoted (list_word kind) ++ codes ",\"metadata\":{\"resourceVersion\":" ++ quoted (decimal place) ++ codes "}}"

-- all objects of a kind in a namespace, after so many entries
abbrev pub listed : State → ℕ → Kind → List ℕ → Answer
listed s place kind namespace = json 200 (list_body s place kind (targets s kind namespace))

abbrev pub text_after : Bool → Option Data → List ℕ
text_after later None = []
text_after later (Some d) = comma_if later ++ compact_text d

abbrev pub later_after : Bool → Option Data → Bool
later_after later None = later
later_after later (Some d) = true

-- an object was appended, after a comma if others come before it
pub record PushesItem (s : State) (t : Target) (later : Bool) (old new : List ℕ) (next : Bool) : Type 0 where
  pub text : new ≡ old ++ text_after later (json_of s t)
  pub next_is : next ≡ later_after later (json_of s t)
