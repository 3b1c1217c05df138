-- How the devices and the counter sets of a ResourceSlice are printed (API reference of resource.k8s.io/v1).
use Rattle.std.specs.Prelude.{ℕ, ℤ, List, ◌++◌, option_and_then, codes}
use Rattle.serde_json.specs.Data.{Data, boolean, number, string, object, no_members, member}
use Rattle.serde_json.specs.Find.{of_integer}
use Rattle.object_fields.specs.declared.qualified.QualName.{QualName}
use Rattle.quantity.specs.Printed.{printed}
use Rattle.api_slice.specs.declared.types.Attribute.{Attribute}
use Rattle.api_slice.specs.declared.types.Attribute.TheVariants as attribute
use Rattle.api_slice.specs.declared.types.CounterConsumption.{CounterConsumption}
use Rattle.api_slice.specs.declared.types.CounterSet.{CounterSet}
use Rattle.api_slice.specs.declared.types.Device.{Device}
use Rattle.api_print.specs.Selectors.{all_nodes_if, node_name_if, node_selector_if}
use Rattle.api_print.specs.Shapes.{list_if, member_if, own_text, table_if, table_json}
use Rattle.api_print.specs.Taints.{taints_if}

-- ---- amounts

-- `{"value":..}` with the quantity as it prints
abbrev pub amount_json : ℤ → Data
amount_json amount = object (member (codes "value") (string (printed amount)) no_members)

-- counters at their names
abbrev pub counters_json : List (List ℕ × ℤ) → Data
counters_json counters = table_json own_text amount_json counters

abbrev pub counter_set_json : CounterSet → Data
counter_set_json set =
    object (member (codes "counters") (counters_json set.counters) (member (codes "name") (string set.name) no_members))

abbrev pub consumption_json : CounterConsumption → Data
consumption_json c =
    object (member (codes "counterSet") (string c.set) (member (codes "counters") (counters_json c.amounts) no_members))

-- ---- attributes and capacities

-- a full name: `domain/id`
abbrev pub full_name : QualName → List ℕ
full_name q = q.domain ++ codes "/" ++ q.id

-- the member of the attribute's kind, with its value
abbrev pub attribute_json : Attribute → Data
attribute_json (attribute.Int n) = object (member (codes "int") (number (of_integer n)) no_members)
attribute_json (attribute.Bool b) = object (member (codes "bool") (boolean b) no_members)
attribute_json (attribute.Text text) = object (member (codes "string") (string text) no_members)
attribute_json (attribute.Version text) = object (member (codes "version") (string text) no_members)

-- ---- devices

-- a device with the fields that are set; names of attributes and capacities are printed in full
unfoldable pub device_json : Device → Data
device_json d =
    object (member_if (codes "allNodes") (option_and_then all_nodes_if d.nodes)
    (member_if (codes "attributes") (table_if full_name attribute_json d.properties.attributes)
    (member_if (codes "capacity") (table_if full_name amount_json d.properties.capacity)
    (member_if (codes "consumesCounters") (list_if consumption_json d.consumes)
    (member (codes "name") (string d.name)
    (member_if (codes "nodeName") (option_and_then node_name_if d.nodes)
    (member_if (codes "nodeSelector") (option_and_then node_selector_if d.nodes)
    (member_if (codes "taints") (taints_if d.taints) no_members))))))))
