-- The JSON of nodes, classes and pods reads as they are.
use Rattle.std.proofs.Common.{◌≡◌, ℕ, ◌<◌, ◌^◌, List, [], ◌∷◌, Option, Some, None, Ok, refl}
use Rattle.std.specs.Prelude.{codes, decimal}
use Rattle.std.specs.Cmp.Lexicographic.{slice_cmp}
use Rattle.std.specs.List.Sorted.{IsStrictlySortedBy}
use Rattle.std.specs.Map.{keys_of}
use Rattle.std.specs.Ordering.{nat_cmp}
use Rattle.serde_json.specs.Data.{Data, string}
use Rattle.serde_json.specs.Find.{get}
use Rattle.object_fields.specs.Selectors.{selectors_most, selector_at}
use Rattle.object_fields.specs.declared.path.Step.{Step}
use Rattle.object_fields.specs.declared.path.Step.TheVariants.{Member}
use Rattle.api_cluster.specs.Classes.{class_of}
use Rattle.api_cluster.specs.Limits.{ClassKept, NodeKept, PodKept, claims_most}
use Rattle.api_cluster.specs.Nodes.{node_of}
use Rattle.api_cluster.specs.Pods.{entry_at, pod_of}
use Rattle.api_cluster.specs.declared.types.DeviceClass.{DeviceClass}
use Rattle.api_cluster.specs.declared.types.Node.{Node}
use Rattle.api_cluster.specs.declared.types.Pod.{Pod}
use Rattle.api_cluster.specs.declared.types.PodResourceClaim.{PodResourceClaim}
use Rattle.pool_view.specs.declared.stored.Stored.{Stored}
use Rattle.api_print.specs.Classes.{class_json, class_spec_json, selector_json, selectors_if}
use Rattle.api_print.specs.Metadata.{key_metadata_json, labels_if, metadata_json}
use Rattle.api_print.specs.Nodes.{node_json}
use Rattle.api_print.specs.Pods.{pod_claim_json, pod_json, pod_spec_json}
use Rattle.api_print.specs.ReadBack.{class_read, node_read, pod_read}
use Rattle.api_print.specs.Shapes.{list_if}
use Rattle.api_print.proofs.Readings.{cluster_members, each_found, key_members}

get_name : (labels : Option Data) (name : List ℕ) (version uid : ℕ) → get (codes "name") (metadata_json labels name version uid) ≡ Some (string name)
get_name None name version uid = refl
get_name (Some d) name version uid = refl

get_labels : (labels : Option Data) (name : List ℕ) (version uid : ℕ) → get (codes "labels") (metadata_json labels name version uid) ≡ labels
get_labels None name version uid = refl
get_labels (Some d) name version uid = refl

get_version : (labels : Option Data) (name : List ℕ) (version uid : ℕ) → get (codes "resourceVersion") (metadata_json labels name version uid) ≡ Some (string (decimal version))
get_version None name version uid = refl
get_version (Some d) name version uid = refl

abbrev meta_path : List Step
meta_path = Member (codes "metadata") ∷ []

pub node_back : (s : Stored Node) → NodeKept s.object → IsStrictlySortedBy (slice_cmp nat_cmp) (keys_of s.object.labels) → s.version < 2 ^ 64 → node_of (node_json s) ≡ Ok (node_read s)
unfolding node_json
node_back s kept sorted small =
    let labels = labels_if s.object.labels in
    rw (cluster_members meta_path (metadata_json labels s.object.name s.version s.uid) s.object.name s.object.labels s.version (get_name labels _ _ _) (get_labels labels _ _ _) (get_version labels _ _ _) kept.name sorted small) refl

selectors_found : (xs : List (List ℕ)) → get (codes "selectors") (class_spec_json (record { name = []; version = None; selectors = xs })) ≡ selectors_if xs
selectors_found [] = refl
selectors_found (x ∷ xs) = refl

pub class_back : (s : Stored DeviceClass) → ClassKept s.object → s.version < 2 ^ 64 → class_of (class_json s) ≡ Ok (class_read s)
unfolding class_json IsStrictlySortedBy
class_back s kept small =
    let meta = cluster_members meta_path (metadata_json None s.object.name s.version s.uid) s.object.name [] s.version refl refl refl kept.name tt small in
    let selectors = each_found selectors_most selector_at selector_json (Member (codes "spec") ∷ []) (codes "selectors") (class_spec_json s.object) s.object.selectors (selectors_found s.object.selectors) kept.selectors (λ p x. refl) in
    rw (meta, selectors) refl

claims_found : (xs : List PodResourceClaim) (s : Pod) → get (codes "resourceClaims") (pod_spec_json (record s { claims = xs })) ≡ list_if pod_claim_json xs
claims_found [] s = refl
claims_found (x ∷ xs) s = refl

no_node : (xs : List PodResourceClaim) (s : Pod) → get (codes "nodeName") (pod_spec_json (record s { claims = xs })) ≡ None
no_node [] s = refl
no_node (x ∷ xs) s = refl

pub pod_back : (s : Stored Pod) → PodKept s.object → s.version < 2 ^ 64 → pod_of (pod_json s) ≡ Ok (pod_read s)
unfolding pod_json
pod_back s kept small =
    let meta = key_members meta_path (key_metadata_json s.object.key s.version s.uid) s.object.key s.version refl refl refl refl kept.key small in
    let claims = each_found claims_most entry_at pod_claim_json (Member (codes "spec") ∷ []) (codes "resourceClaims") (pod_spec_json s.object) s.object.claims (claims_found s.object.claims s.object) kept.claims (λ p x. refl) in
    let unset = no_node s.object.claims s.object in
    rw (meta, unset, claims) refl
