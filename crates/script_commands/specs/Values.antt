-- The values of a generated script's documents. An object has its members in order of their names.
use Rattle.std.specs.Prelude.{ℕ, List, [], ◌∷◌, ◌++◌, codes, decimal}
use Rattle.serde_json.specs.Data.{Data, Items, Members, array, item, member, no_items, no_members, number, object, string, unsigned}

abbrev pub members_of : List (List ℕ × Data) → Members
members_of [] = no_members
members_of ((name, d) ∷ rest) = member name d (members_of rest)

abbrev pub object_of : List (List ℕ × Data) → Data
object_of fields = object (members_of fields)

abbrev pub items_of : List Data → Items
items_of [] = no_items
items_of (d ∷ ds) = item d (items_of ds)

abbrev pub list_of : List Data → Data
list_of ds = array (items_of ds)

abbrev pub number_of : ℕ → Data
number_of n = number (unsigned n)

-- an object that has a name alone
abbrev pub named : List ℕ → Data
named name = object_of ((codes "name", string name) ∷ [])

-- metadata of the namespace `default`
abbrev pub in_default : List ℕ → Data
in_default name = object_of ((codes "name", string name) ∷ (codes "namespace", string (codes "default")) ∷ [])

abbrev pub with_kind : List ℕ → List ℕ → List (List ℕ × Data) → Data
with_kind version kind fields = object_of ((codes "apiVersion", string version) ∷ (codes "kind", string kind) ∷ fields)

-- the node `ni`
abbrev pub node_value : ℕ → Data
node_value i = with_kind (codes "v1") (codes "Node") ((codes "metadata", named (codes "n" ++ decimal i)) ∷ [])

-- the class `gpu`
abbrev pub class_value : Data
class_value =
    with_kind (codes "resource.k8s.io/v1") (codes "DeviceClass") ((codes "metadata", named (codes "gpu")) ∷ (codes "spec", object_of []) ∷ [])

-- the devices `d0` to `d7`
abbrev pub devices_value : Data
devices_value =
    list_of (named (codes "d0") ∷ named (codes "d1") ∷ named (codes "d2") ∷ named (codes "d3") ∷ named (codes "d4") ∷ named (codes "d5") ∷ named (codes "d6") ∷ named (codes "d7") ∷ [])

-- the pool of the node `ni`
abbrev pub pool_value : ℕ → Data
pool_value i =
    object_of ((codes "generation", number_of 1) ∷ (codes "name", string (codes "n" ++ decimal i)) ∷ (codes "resourceSliceCount", number_of 1) ∷ [])

-- the slice `si` of the node `ni`
abbrev pub slice_value : ℕ → Data
slice_value i =
    with_kind (codes "resource.k8s.io/v1") (codes "ResourceSlice")
    ((codes "metadata", named (codes "s" ++ decimal i))
    ∷ (codes "spec", object_of ((codes "devices", devices_value) ∷ (codes "driver", string (codes "gpu.example.com")) ∷ (codes "nodeName", string (codes "n" ++ decimal i)) ∷ (codes "pool", pool_value i) ∷ []))
    ∷ [])

-- so many devices of the class `gpu`
abbrev pub request_value : ℕ → Data
request_value count =
    object_of ((codes "exactly", object_of ((codes "count", number_of count) ∷ (codes "deviceClassName", string (codes "gpu")) ∷ [])) ∷ (codes "name", string (codes "gpu")) ∷ [])

-- the claim `ci`
abbrev pub claim_value : ℕ → ℕ → Data
claim_value i count =
    with_kind (codes "resource.k8s.io/v1") (codes "ResourceClaim")
    ((codes "metadata", in_default (codes "c" ++ decimal i))
    ∷ (codes "spec", object_of ((codes "devices", object_of ((codes "requests", list_of (request_value count ∷ [])) ∷ [])) ∷ []))
    ∷ [])

-- what the pod `pi` uses: the claim `ci`
abbrev pub used_value : ℕ → Data
used_value i = object_of ((codes "name", string (codes "g")) ∷ (codes "resourceClaimName", string (codes "c" ++ decimal i)) ∷ [])

-- the pod `pi`
abbrev pub pod_value : ℕ → Data
pod_value i =
    with_kind (codes "v1") (codes "Pod")
    ((codes "metadata", in_default (codes "p" ++ decimal i))
    ∷ (codes "spec", object_of ((codes "resourceClaims", list_of (used_value i ∷ [])) ∷ []))
    ∷ [])

-- a command of this kind on the pod `pi`
abbrev pub on_pod : List ℕ → ℕ → Data
on_pod kind i = with_kind (codes "dra.replay/v1") kind ((codes "name", string (codes "p" ++ decimal i)) ∷ (codes "namespace", string (codes "default")) ∷ [])

abbrev pub schedule_value : ℕ → Data
schedule_value i = on_pod (codes "Schedule") i

abbrev pub release_value : ℕ → Data
release_value i = on_pod (codes "Release") i
