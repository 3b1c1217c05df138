-- How a DeviceClass is printed (API reference of resource.k8s.io/v1).
use Rattle.std.specs.Prelude.{ℕ, List, Some, None, Option, codes}
use Rattle.serde_json.specs.Data.{Data, string, object, no_members, member}
use Rattle.api_cluster.specs.declared.types.DeviceClass.{DeviceClass}
use Rattle.pool_view.specs.declared.stored.Stored.{Stored}
use Rattle.api_print.specs.Metadata.{metadata_json, object_json, resource_version}
use Rattle.api_print.specs.Shapes.{list_if, member_if}

-- a selector of devices: `{"cel":{"expression":..}}`
abbrev pub selector_json : List ℕ → Data
selector_json expression =
    object (member (codes "cel") (object (member (codes "expression") (string expression) no_members)) no_members)

-- selectors, left out if there are none
abbrev pub selectors_if : List (List ℕ) → Option Data
selectors_if expressions = list_if selector_json expressions

abbrev pub class_spec_json : DeviceClass → Data
class_spec_json class = object (member_if (codes "selectors") (selectors_if class.selectors) no_members)

unfoldable pub class_json : Stored DeviceClass → Data
class_json s =
    object_json resource_version (codes "DeviceClass") (metadata_json None s.object.name s.version s.uid) (Some (class_spec_json s.object)) None
