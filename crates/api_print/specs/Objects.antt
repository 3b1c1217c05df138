-- How the objects of a state are printed.
use Rattle.std.specs.Prelude.{Option, option_map}
use Rattle.serde_json.specs.Data.{Data}
use Rattle.pool_view.specs.Names.{at_key, at_name}
use Rattle.cluster.specs.declared.object.Target.{Target}
use Rattle.cluster.specs.declared.object.Target.TheVariants as target
use Rattle.cluster.specs.declared.state.PodState.{PodState}
use Rattle.cluster.specs.declared.state.State.{State}
use Rattle.api_print.specs.Classes.{class_json}
use Rattle.api_print.specs.Nodes.{node_json}
use Rattle.api_print.specs.Pods.{pod_json}
use Rattle.api_print.specs.Slices.{slice_json}
use Rattle.api_print.specs.Status.{claim_json}

-- the object of a kind and name, if it exists
abbrev pub json_of : State → Target → Option Data
json_of s (target.Node name) = option_map node_json (at_name s.inventory.nodes name)
json_of s (target.Slice name) = option_map slice_json (at_name s.inventory.slices name)
json_of s (target.Class name) = option_map class_json (at_name s.classes name)
json_of s (target.Claim key) = option_map (claim_json s.pods) (at_key s.claims key)
json_of s (target.Pod key) = option_map (λ (p : PodState). pod_json p.pod) (at_key s.pods key)
