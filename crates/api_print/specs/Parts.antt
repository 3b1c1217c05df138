-- The part of a state that is printed of one object.
use Rattle.std.specs.Prelude.{List, [], ◌∷◌, Option, Some, None}
use Rattle.std.specs.BTreeMap.{insert_entry}
use Rattle.serde_json.specs.Data.{Data}
use Rattle.object_fields.specs.declared.key.Key.{Key}
use Rattle.pool_view.specs.Names.{at_key, key_cmp}
use Rattle.cluster.specs.declared.state.PodState.{PodState}
use Rattle.cluster.specs.declared.state.Use.{Use}
use Rattle.cluster.specs.declared.state.Use.TheVariants.{Assumed, Written}
use Rattle.api_print.specs.declared.part.Part.{Part}
use Rattle.api_print.specs.declared.part.Part.TheVariants.{Absent, Node, Slice, Class, Claim, Pod}
use Rattle.api_print.specs.Classes.{class_json}
use Rattle.api_print.specs.Nodes.{node_json}
use Rattle.api_print.specs.Pods.{pod_json}
use Rattle.api_print.specs.Slices.{slice_json}
use Rattle.api_print.specs.Status.{claim_json}

-- how the object is printed, if there is one
abbrev pub part_json : Part → Option Data
part_json Absent = None
part_json (Node node) = Some (node_json node)
part_json (Slice slice) = Some (slice_json slice)
part_json (Class class) = Some (class_json class)
part_json (Claim claim pods) = Some (claim_json pods claim)
part_json (Pod pod) = Some (pod_json pod)

-- ---- the pods whose use of a claim is written

-- a table with the pod, if it exists
abbrev pub with_pod : Key → Option PodState → List (Key × PodState) → List (Key × PodState)
with_pod key None table = table
with_pod key (Some pod) table = insert_entry key_cmp table key pod

-- a table with the pod, if its use is written
abbrev pub with_user : List (Key × PodState) → Key → Use → List (Key × PodState) → List (Key × PodState)
with_user pods key (Assumed seen) table = table
with_user pods key Written table = with_pod key (at_key pods key) table

-- a table with the pods whose use is written
abbrev pub with_users : List (Key × PodState) → List (Key × Use) → List (Key × PodState) → List (Key × PodState)
with_users pods [] table = table
with_users pods (u ∷ us) table = with_users pods us (with_user pods u.0 u.1 table)
