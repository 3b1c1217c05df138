-- How the status of a ResourceClaim with a published grant is printed (API reference of resource.k8s.io/v1).
use Rattle.std.specs.Prelude.{ℕ, List, [], ◌∷◌, Option, Some, None, codes, if◌then◌else◌}
use Rattle.std.specs.List.{flat_map}
use Rattle.serde_json.specs.Data.{Data, string, array, object, no_members, member}
use Rattle.serde_json.specs.View.{items_of}
use Rattle.object_fields.specs.declared.key.Key.{Key}
use Rattle.pool_view.specs.Names.{at_key}
use Rattle.cluster.specs.declared.plan.DeviceResult.{DeviceResult}
use Rattle.cluster.specs.declared.state.ClaimState.{ClaimState}
use Rattle.cluster.specs.declared.state.Granted.{Granted}
use Rattle.cluster.specs.declared.state.PodState.{PodState}
use Rattle.cluster.specs.declared.state.Use.{Use}
use Rattle.cluster.specs.declared.state.Use.TheVariants.{Assumed, Written}
use Rattle.api_print.specs.Claims.{claim_spec_json}
use Rattle.api_print.specs.Metadata.{key_metadata_json, object_json, resource_version, uid_text}
use Rattle.api_print.specs.Shapes.{flag_if, list_json, member_if}

-- ---- the allocation

abbrev pub result_json : DeviceResult → Data
result_json r =
    object (member_if (codes "adminAccess") (flag_if r.admin)
    (member (codes "device") (string r.device.device)
    (member (codes "driver") (string r.device.driver)
    (member (codes "pool") (string r.device.pool)
    (member (codes "request") (string r.name) no_members)))))

abbrev pub results_json : List DeviceResult → Data
results_json results = object (member (codes "results") (list_json result_json results) no_members)

-- `metadata.name` In the one node
abbrev pub one_node_json : List ℕ → Data
one_node_json node =
    object (member (codes "key") (string (codes "metadata.name"))
    (member (codes "operator") (string (codes "In"))
    (member (codes "values") (list_json string (node ∷ [])) no_members)))

abbrev pub one_field_json : List ℕ → Data
one_field_json node = object (member (codes "matchFields") (list_json one_node_json (node ∷ [])) no_members)

-- a selector of the one node
abbrev pub grant_node_json : List ℕ → Data
grant_node_json node = object (member (codes "nodeSelectorTerms") (list_json one_field_json (node ∷ [])) no_members)

unfoldable pub allocation_json : Granted → Data
allocation_json g =
    object (member (codes "devices") (results_json g.results) (member (codes "nodeSelector") (grant_node_json g.node) no_members))

-- ---- the users

-- a pod that uses the claim, by its name and its uid
abbrev pub user_json : List ℕ → ℕ → Data
user_json name uid =
    object (member (codes "name") (string name)
    (member (codes "resource") (string (codes "pods"))
    (member (codes "uid") (string (uid_text uid)) no_members)))

-- the pod, if it exists
abbrev pub user_of : Key → Option PodState → List Data
user_of key None = []
user_of key (Some p) = user_json key.name p.pod.uid ∷ []

-- the pod, if its use is written
abbrev pub user_by : List (Key × PodState) → Key → Use → List Data
user_by pods key (Assumed seen) = []
user_by pods key Written = user_of key (at_key pods key)

-- the pods whose use of the claim is written, in the order of their keys
abbrev pub written_users : List (Key × PodState) → List (Key × Use) → List Data
written_users pods users = flat_map (λ (e : Key × Use). user_by pods e.0 e.1) users

-- a list of these items, left out if there are none
abbrev pub items_if : List Data → Option Data
items_if [] = None
items_if (d ∷ ds) = Some (array (items_of (d ∷ ds)))

-- ---- the status, and the claim with it

abbrev pub status_json : List (Key × PodState) → Granted → List (Key × Use) → Data
status_json pods grant users =
    object (member (codes "allocation") (allocation_json grant)
    (member_if (codes "reservedFor") (items_if (written_users pods users)) no_members))

-- there is a status if a grant is published
abbrev pub status_if : List (Key × PodState) → Option Granted → List (Key × Use) → Option Data
status_if pods None users = None
status_if pods (Some grant) users = if grant.published then Some (status_json pods grant users) else None

unfoldable pub claim_json : List (Key × PodState) → ClaimState → Data
claim_json pods c =
    object_json resource_version (codes "ResourceClaim") (key_metadata_json c.claim.object.key c.claim.version c.claim.uid)
    (Some (claim_spec_json c.claim.object)) (status_if pods c.grant c.users)
