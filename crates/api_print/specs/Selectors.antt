-- How node selectors and the members that say where devices are are printed (NodeSelector of the
-- Kubernetes API reference).
use Rattle.std.specs.Prelude.{ℕ, true, List, [], ◌∷◌, Option, Some, None, codes}
use Rattle.std.specs.Fmt.{signed_decimal}
use Rattle.serde_json.specs.Data.{Data, boolean, string, object, no_members, member}
use Rattle.node_select.specs.declared.requirement.Requirement.{Requirement}
use Rattle.node_select.specs.declared.requirement.Test.{Test}
use Rattle.node_select.specs.declared.requirement.Test.TheVariants.{OneOf, NoneOf, Present, Absent, Above, Below}
use Rattle.node_select.specs.declared.selector.Selector.{Selector}
use Rattle.api_slice.specs.declared.types.Nodes.{Nodes}
use Rattle.api_slice.specs.declared.types.Nodes.TheVariants as nodes
use Rattle.api_print.specs.Shapes.{list_if, list_json, member_if}

abbrev pub operator_text : Test → List ℕ
operator_text (OneOf texts) = codes "In"
operator_text (NoneOf texts) = codes "NotIn"
operator_text Present = codes "Exists"
operator_text Absent = codes "DoesNotExist"
operator_text (Above n) = codes "Gt"
operator_text (Below n) = codes "Lt"

-- the values, of Gt and Lt the number in decimal digits; Exists and DoesNotExist have none
abbrev pub values_if : Test → Option Data
values_if (OneOf texts) = Some (list_json string texts)
values_if (NoneOf texts) = Some (list_json string texts)
values_if Present = None
values_if Absent = None
values_if (Above n) = Some (list_json string (signed_decimal n ∷ []))
values_if (Below n) = Some (list_json string (signed_decimal n ∷ []))

abbrev pub requirement_json : Requirement → Data
requirement_json r =
    object (member (codes "key") (string r.key)
    (member (codes "operator") (string (operator_text r.test))
    (member_if (codes "values") (values_if r.test) no_members)))

-- the one term of a selector
abbrev pub term_json : Selector → Data
term_json s =
    object (member_if (codes "matchExpressions") (list_if requirement_json s.expressions)
    (member_if (codes "matchFields") (list_if requirement_json s.fields) no_members))

unfoldable pub node_selector_json : Selector → Data
node_selector_json s = object (member (codes "nodeSelectorTerms") (list_json term_json (s ∷ [])) no_members)

-- ---- the members `allNodes`, `nodeName` and `nodeSelector`, of which one is set

abbrev pub all_nodes_if : Nodes → Option Data
all_nodes_if (nodes.Named name) = None
all_nodes_if (nodes.Selected selector) = None
all_nodes_if nodes.All = Some (boolean true)

abbrev pub node_name_if : Nodes → Option Data
node_name_if (nodes.Named name) = Some (string name)
node_name_if (nodes.Selected selector) = None
node_name_if nodes.All = None

abbrev pub node_selector_if : Nodes → Option Data
node_selector_if (nodes.Named name) = None
node_selector_if (nodes.Selected selector) = Some (node_selector_json selector)
node_selector_if nodes.All = None
