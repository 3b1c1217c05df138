-- How a Pod is printed (API reference of v1). The node that it was bound to isn't a kept field.
use Rattle.std.specs.Prelude.{Some, None, codes}
use Rattle.serde_json.specs.Data.{Data, string, object, no_members, member}
use Rattle.api_cluster.specs.declared.types.Pod.{Pod}
use Rattle.api_cluster.specs.declared.types.PodResourceClaim.{PodResourceClaim}
use Rattle.pool_view.specs.declared.stored.Stored.{Stored}
use Rattle.api_print.specs.Metadata.{core_version, key_metadata_json, object_json}
use Rattle.api_print.specs.Shapes.{list_if, member_if}

abbrev pub pod_claim_json : PodResourceClaim → Data
pod_claim_json c =
    object (member (codes "name") (string c.name) (member (codes "resourceClaimName") (string c.claim) no_members))

abbrev pub pod_spec_json : Pod → Data
pod_spec_json pod = object (member_if (codes "resourceClaims") (list_if pod_claim_json pod.claims) no_members)

unfoldable pub pod_json : Stored Pod → Data
pod_json s =
    object_json core_version (codes "Pod") (key_metadata_json s.object.key s.version s.uid) (Some (pod_spec_json s.object)) None
