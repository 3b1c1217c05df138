-- How a Node is printed (API reference of v1): its metadata with its labels. It has no spec.
use Rattle.std.specs.Prelude.{None, codes}
use Rattle.serde_json.specs.Data.{Data}
use Rattle.api_cluster.specs.declared.types.Node.{Node}
use Rattle.pool_view.specs.declared.stored.Stored.{Stored}
use Rattle.api_print.specs.Metadata.{core_version, labels_if, metadata_json, object_json}

unfoldable pub node_json : Stored Node → Data
node_json s =
    object_json core_version (codes "Node") (metadata_json (labels_if s.object.labels) s.object.name s.version s.uid) None None
