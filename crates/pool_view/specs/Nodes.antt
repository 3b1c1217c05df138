-- The nodes that a slice is for.
use Rattle.std.specs.Prelude.{ℕ, List, Option, None, Some}
use Rattle.api_slice.specs.declared.types.Nodes.{Nodes}
use Rattle.api_slice.specs.declared.types.Nodes.TheVariants.{Named, Selected, All}
use Rattle.api_slice.specs.declared.types.SliceNodes.{SliceNodes}
use Rattle.api_slice.specs.declared.types.SliceNodes.TheVariants as slice

-- the node, if one is named
abbrev pub node_named : Nodes → Option (List ℕ)
node_named (Named n) = Some n
node_named (Selected selector) = None
node_named All = None

-- the one node on which all devices of a slice are, if it names one
abbrev pub named_node : SliceNodes → Option (List ℕ)
named_node (slice.Nodes nodes) = node_named nodes
named_node slice.PerDevice = None
