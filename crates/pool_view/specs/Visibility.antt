-- Which nodes see the devices of a slice (API reference of resource.k8s.io/v1).
use Rattle.std.specs.Prelude.{Bool, true, false, ◌||◌, Option, None, Some, filter, map, List}
use Rattle.std.specs.List.{list_any}
use Rattle.node_select.specs.Terms.{term_holds}
use Rattle.api_cluster.specs.declared.types.Node.{Node}
use Rattle.api_slice.specs.declared.types.Device.{Device}
use Rattle.api_slice.specs.declared.types.Nodes.{Nodes}
use Rattle.api_slice.specs.declared.types.Nodes.TheVariants.{Named, Selected, All}
use Rattle.api_slice.specs.declared.types.ResourceSlice.{ResourceSlice}
use Rattle.api_slice.specs.declared.types.SliceNodes.{SliceNodes}
use Rattle.api_slice.specs.declared.types.SliceNodes.TheVariants as slice
use Rattle.pool_view.specs.Names.{text_eq}
use Rattle.pool_view.specs.Pools.{Offered, offered_by}

-- the node is the one of nodeName, nodeSelector selects its name and labels, or it is allNodes
abbrev pub are_on : Nodes → Node → Bool
are_on (Named name) node = text_eq name node.name
are_on (Selected selector) node = term_holds selector node.name node.labels
are_on All node = true

abbrev pub own_are_on : Option Nodes → Node → Bool
own_are_on None node = false
own_are_on (Some nodes) node = are_on nodes node

-- by the slice's own field; with perDeviceNodeSelection it has none
abbrev pub field_is_on : SliceNodes → Node → Bool
field_is_on (slice.Nodes nodes) node = are_on nodes node
field_is_on slice.PerDevice node = false

-- a device is visible if the slice's field covers the node, or the device's own does with
-- perDeviceNodeSelection
abbrev pub sees_device : SliceNodes → Node → Device → Bool
sees_device (slice.Nodes nodes) node d = are_on nodes node
sees_device slice.PerDevice node d = own_are_on d.nodes node

-- a slice is visible if one of its devices is, or if its own field covers the node
abbrev pub sees_slice : Node → ResourceSlice → Bool
sees_slice node x = field_is_on x.nodes node || list_any (sees_device x.nodes node) x.devices

-- the devices of a slice that the node sees, in order
abbrev pub offered_to : Node → ResourceSlice → List Offered
offered_to node x = map (offered_by x) (filter (sees_device x.nodes node) x.devices)
