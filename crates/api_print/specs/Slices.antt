-- How a ResourceSlice is printed (API reference of resource.k8s.io/v1).
use Rattle.std.specs.Prelude.{true, Option, Some, None, codes}
use Rattle.serde_json.specs.Data.{Data, boolean, number, unsigned, string, object, no_members, member}
use Rattle.api_slice.specs.declared.types.Pool.{Pool}
use Rattle.api_slice.specs.declared.types.ResourceSlice.{ResourceSlice}
use Rattle.api_slice.specs.declared.types.SliceNodes.{SliceNodes}
use Rattle.api_slice.specs.declared.types.SliceNodes.TheVariants as slice
use Rattle.pool_view.specs.declared.stored.Stored.{Stored}
use Rattle.api_print.specs.Devices.{counter_set_json, device_json}
use Rattle.api_print.specs.Metadata.{metadata_json, object_json, resource_version}
use Rattle.api_print.specs.Selectors.{all_nodes_if, node_name_if, node_selector_if}
use Rattle.api_print.specs.Shapes.{list_if, member_if}

abbrev pub pool_json : Pool → Data
pool_json p =
    object (member (codes "generation") (number (unsigned p.generation))
    (member (codes "name") (string p.name)
    (member (codes "resourceSliceCount") (number (unsigned p.slices)) no_members)))

-- ---- where the devices are

abbrev pub slice_all_nodes : SliceNodes → Option Data
slice_all_nodes (slice.Nodes nodes) = all_nodes_if nodes
slice_all_nodes slice.PerDevice = None

abbrev pub slice_node_name : SliceNodes → Option Data
slice_node_name (slice.Nodes nodes) = node_name_if nodes
slice_node_name slice.PerDevice = None

abbrev pub slice_node_selector : SliceNodes → Option Data
slice_node_selector (slice.Nodes nodes) = node_selector_if nodes
slice_node_selector slice.PerDevice = None

abbrev pub slice_per_device : SliceNodes → Option Data
slice_per_device (slice.Nodes nodes) = None
slice_per_device slice.PerDevice = Some (boolean true)

-- ---- the slice

unfoldable pub slice_spec_json : ResourceSlice → Data
slice_spec_json s =
    object (member_if (codes "allNodes") (slice_all_nodes s.nodes)
    (member_if (codes "devices") (list_if device_json s.devices)
    (member (codes "driver") (string s.driver)
    (member_if (codes "nodeName") (slice_node_name s.nodes)
    (member_if (codes "nodeSelector") (slice_node_selector s.nodes)
    (member_if (codes "perDeviceNodeSelection") (slice_per_device s.nodes)
    (member (codes "pool") (pool_json s.pool)
    (member_if (codes "sharedCounters") (list_if counter_set_json s.counters) no_members))))))))

unfoldable pub slice_json : Stored ResourceSlice → Data
slice_json s =
    object_json resource_version (codes "ResourceSlice") (metadata_json None s.object.name s.version s.uid) (Some (slice_spec_json s.object)) None
