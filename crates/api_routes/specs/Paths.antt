-- What a path names, by its segments. The paths of objects are those of the Kubernetes API; those under
-- `dra.replay` are this project's own.
use Rattle.std.specs.Prelude.{ℕ, ◌==◌, nat_lt, Bool, List, [], ◌∷◌, Option, Some, None, codes, length, if◌then◌else◌}
use Rattle.std.specs.List.{before_first, slice_split}
use Rattle.std.specs.Str.{bytes_eq}
use Rattle.object_fields.specs.declared.key.Key.{Key}
use Rattle.api_routes.specs.declared.asked.Route.{Route}
use Rattle.api_routes.specs.declared.asked.Route.TheVariants.{Objects, Object, Status, Schedule, Release, History}
use Rattle.api_routes.specs.declared.kind.Kind.{Kind}
use Rattle.api_routes.specs.declared.kind.Kind.TheVariants.{Node, ResourceSlice, DeviceClass, ResourceClaim, Pod}

-- the path of a target: what comes before its first `?`
abbrev pub path_part : List ℕ → List ℕ
path_part target = before_first (λ b. b == 63) target

-- what is between the slashes of a path
unfoldable pub segments : List ℕ → List (List ℕ)
segments path = slice_split (λ b. b == 47) path

-- the segments of what follows a slash, if there is one
abbrev pub following : Option (List ℕ) → List (List ℕ)
following None = []
following (Some path) = segments path

-- a name or a namespace isn't empty
abbrev pub is_named : List ℕ → Bool
is_named segment = nat_lt 0 (length segment)

abbrev pub key_of : List ℕ → List ℕ → Key
key_of namespace name = record { namespace = namespace; name = name }

-- ---- steps over segments

-- the first segment is this word, and the rest goes on
abbrev pub under : List ℕ → (List (List ℕ) → Option Route) → List (List ℕ) → Option Route
under word f [] = None
under word f (s ∷ ss) = if bytes_eq s word then f ss else None

-- the first segment is one of two words, and the rest goes on by it
abbrev pub either : List ℕ → (List (List ℕ) → Option Route) → List ℕ → (List (List ℕ) → Option Route) → List (List ℕ) → Option Route
either word f other g [] = None
either word f other g (s ∷ ss) = if bytes_eq s word then f ss else if bytes_eq s other then g ss else None

-- the first segment is a name, and the rest goes on with it
abbrev pub named : (List ℕ → List (List ℕ) → Option Route) → List (List ℕ) → Option Route
named f [] = None
named f (s ∷ ss) = if is_named s then f s ss else None

-- there is no further segment
abbrev pub last : Route → List (List ℕ) → Option Route
last route [] = Some route
last route (s ∷ ss) = None

-- ---- the paths

-- the objects of a kind in a namespace, or the one of a name
abbrev pub objects : Kind → List ℕ → List (List ℕ) → Option Route
objects kind namespace [] = Some (Objects kind namespace)
objects kind namespace (s ∷ ss) = named (λ name. last (Object kind (key_of namespace name))) (s ∷ ss)

-- a claim, or its status
abbrev pub claim : Key → List (List ℕ) → Option Route
claim key [] = Some (Object ResourceClaim key)
claim key (s ∷ ss) = under (codes "status") (last (Status key)) (s ∷ ss)

-- the claims of a namespace, or one of them
abbrev pub claims : List ℕ → List (List ℕ) → Option Route
claims namespace [] = Some (Objects ResourceClaim namespace)
claims namespace (s ∷ ss) = named (λ name. claim (key_of namespace name)) (s ∷ ss)

-- a pod's scheduling or its release
abbrev pub doing : Key → List (List ℕ) → Option Route
doing pod = either (codes "schedule") (last (Schedule pod)) (codes "release") (last (Release pod))

-- `/api/v1/..`
abbrev pub core : List (List ℕ) → Option Route
core =
    either (codes "nodes") (objects Node [])
    (codes "namespaces") (named (λ namespace. under (codes "pods") (objects Pod namespace)))

-- `/apis/resource.k8s.io/v1/..`, of objects without namespace
abbrev pub cluster_resource : List (List ℕ) → Option Route
cluster_resource = either (codes "resourceslices") (objects ResourceSlice []) (codes "deviceclasses") (objects DeviceClass [])

-- `/apis/resource.k8s.io/v1/..`
abbrev pub resource : List (List ℕ) → Option Route
resource [] = None
resource (s ∷ ss) =
    if bytes_eq s (codes "namespaces") then named (λ namespace. under (codes "resourceclaims") (claims namespace)) ss
    else cluster_resource (s ∷ ss)

-- `/apis/dra.replay/v1/..`
abbrev pub replay : List (List ℕ) → Option Route
replay =
    either (codes "history") (last History)
    (codes "namespaces") (named (λ namespace. under (codes "pods") (named (λ name. doing (key_of namespace name)))))

-- `/apis/..`
abbrev pub groups : List (List ℕ) → Option Route
groups =
    either (codes "resource.k8s.io") (under (codes "v1") resource)
    (codes "dra.replay") (under (codes "v1") replay)

-- `/..`
abbrev pub root : List (List ℕ) → Option Route
root = either (codes "api") (under (codes "v1") core) (codes "apis") groups

-- what a path names, if it names anything; it begins with a slash
abbrev pub route_in : List (List ℕ) → Option Route
route_in = under [] root

unfoldable pub route_of : List ℕ → Option Route
route_of path = route_in (segments path)
