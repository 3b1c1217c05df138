-- The devices of a slice read as they are.
use Rattle.std.proofs.Common.{◌≡◌, ℕ, ◌+◌, ◌≤◌, nat_lt, ℤ, map, Bool, false, List, [], ◌∷◌, ◌++◌, length, Option, Some, Result, Ok, refl, ap, ◌∙◌, append_assoc, option_and_then}
use Rattle.std.specs.Prelude.{codes}
use Rattle.std.proofs.lemmas.List.{append-nil}
use Rattle.std.proofs.lemmas.List.Elements.{recursion_from_All}
use Rattle.std.specs.List.{AllByRecursion}
use Rattle.std.specs.Map.{keys_of, values_of}
use Rattle.serde_json.specs.Data.{Data, string}
use Rattle.serde_json.specs.Find.{get}
use Rattle.object_fields.specs.Fields.{items_length}
use Rattle.object_fields.specs.Lists.{alone, each_from}
use Rattle.object_fields.specs.NewNames.{AreDifferent}
use Rattle.object_fields.specs.Qualified.{IsFullName}
use Rattle.object_fields.specs.declared.error.FieldError.{FieldError}
use Rattle.object_fields.specs.declared.path.Step.{Step}
use Rattle.object_fields.specs.declared.path.Step.TheVariants.{Member, Place}
use Rattle.object_fields.specs.declared.qualified.QualName.{QualName}
use Rattle.device_taints.specs.Reading.{taints_at}
use Rattle.device_taints.specs.declared.types.Taint.{Taint}
use Rattle.api_slice.specs.Attributes.{attributes_of}
use Rattle.api_slice.specs.Capacity.{capacity_of}
use Rattle.api_slice.specs.Consumption.{consumes_of}
use Rattle.api_slice.specs.Devices.{devices_at, devices_most, devices_with, new_device_name, nothing_more, nothing_more_from, rows_of}
use Rattle.api_slice.specs.Limits.{IsDraw, IsLabel, KeepsLimits}
use Rattle.api_slice.specs.Nodes.{device_nodes_of}
use Rattle.api_slice.specs.Properties.{IsValue}
use Rattle.api_slice.specs.declared.types.Attribute.{Attribute}
use Rattle.api_slice.specs.declared.types.CounterConsumption.{CounterConsumption}
use Rattle.api_slice.specs.declared.types.Device.{Device}
use Rattle.api_slice.specs.declared.types.Nodes.{Nodes}
use Rattle.api_print.specs.Devices.{amount_json, attribute_json, consumption_json, device_json, full_name}
use Rattle.api_print.specs.Ranges.{AttributeInRange, DeviceInRange, DrawInRange}
use Rattle.api_print.specs.Selectors.{all_nodes_if, node_name_if, node_selector_if}
use Rattle.api_print.specs.Shapes.{list_if, listed, table_if}
use Rattle.api_print.specs.Taints.{taints_if}
use Rattle.api_print.proofs.CounterSets.{is_new}
use Rattle.api_print.proofs.Decimals.{not_longer}
use Rattle.api_print.proofs.DrawsBack.{DrawReads, consumes_back, draw_reads}
use Rattle.api_print.proofs.Entries.{both_values}
use Rattle.api_print.proofs.OptionalMembers.{found, or_none}
use Rattle.api_print.proofs.PropertiesBack.{AttributeReads, attribute_reads, attributes_back, capacity_back}
use Rattle.api_print.proofs.Readings.{label_read, listed_length}
use Rattle.api_print.proofs.SelectorsBack.{device_nodes_back}
use Rattle.api_print.proofs.TaintsBack.{taints_back}

-- ---- a device

abbrev device_members : Device → List (List ℕ × Option Data)
device_members d =
    (codes "allNodes", option_and_then all_nodes_if d.nodes) ∷
    (codes "attributes", table_if full_name attribute_json d.properties.attributes) ∷
    (codes "capacity", table_if full_name amount_json d.properties.capacity) ∷
    (codes "consumesCounters", list_if consumption_json d.consumes) ∷
    (codes "name", Some (string d.name)) ∷
    (codes "nodeName", option_and_then node_name_if d.nodes) ∷
    (codes "nodeSelector", option_and_then node_selector_if d.nodes) ∷
    (codes "taints", taints_if d.taints) ∷ []

-- what a device is read as, field by field
record DeviceReads (driver : List ℕ) (per_device : Bool) (d : Device) : Type 0 where
  attributes : (p : List Step) → attributes_of driver p (device_json d) ≡ Ok d.properties.attributes
  capacity : (p : List Step) → capacity_of driver p (device_json d) ≡ Ok d.properties.capacity
  consumes : (p : List Step) → consumes_of p (device_json d) ≡ Ok d.consumes
  nodes : (p : List Step) → device_nodes_of per_device p (device_json d) ≡ Ok d.nodes
  taints : (p : List Step) → taints_at p (device_json d) ≡ Ok d.taints

device_has_attributes : (d : Device) → get (codes "attributes") (device_json d) ≡ table_if full_name attribute_json d.properties.attributes
unfolding device_json
device_has_attributes d = found (codes "attributes") (device_members d) ∙ or_none _

device_has_capacity : (d : Device) → get (codes "capacity") (device_json d) ≡ table_if full_name amount_json d.properties.capacity
unfolding device_json
device_has_capacity d = found (codes "capacity") (device_members d) ∙ or_none _

device_has_draws : (d : Device) → get (codes "consumesCounters") (device_json d) ≡ list_if consumption_json d.consumes
unfolding device_json
device_has_draws d = found (codes "consumesCounters") (device_members d) ∙ or_none _

device_has_name : (d : Device) → get (codes "name") (device_json d) ≡ Some (string d.name)
unfolding device_json
device_has_name d = found (codes "name") (device_members d)

device_has_node_name : (d : Device) → get (codes "nodeName") (device_json d) ≡ option_and_then node_name_if d.nodes
unfolding device_json
device_has_node_name d = found (codes "nodeName") (device_members d) ∙ or_none _

device_has_selector : (d : Device) → get (codes "nodeSelector") (device_json d) ≡ option_and_then node_selector_if d.nodes
unfolding device_json
device_has_selector d = found (codes "nodeSelector") (device_members d) ∙ or_none _

device_has_all_nodes : (d : Device) → get (codes "allNodes") (device_json d) ≡ option_and_then all_nodes_if d.nodes
unfolding device_json
device_has_all_nodes d = found (codes "allNodes") (device_members d) ∙ or_none _

device_has_taints : (d : Device) → get (codes "taints") (device_json d) ≡ taints_if d.taints
unfolding device_json
device_has_taints d = found (codes "taints") (device_members d) ∙ or_none _

-- nothing of what is left out is printed
nothing_printed : (p : List Step) (d : Device) → nothing_more p (device_json d) ≡ Ok tt
unfolding device_json
nothing_printed p d =
    rw (found (codes "allowMultipleAllocations") (device_members d), found (codes "bindingConditions") (device_members d), found (codes "bindingFailureConditions") (device_members d), found (codes "bindsToNode") (device_members d)) refl

device_reads : (driver : List ℕ) (per_device : Bool) (d : Device) → KeepsLimits per_device d → DeviceInRange d → DeviceReads driver per_device d
device_reads driver per_device d kept range =
    let attributes = d.properties.attributes in
    let capacity = d.properties.capacity in
    record {
      attributes = λ p. attributes_back driver p (device_json d) attributes (device_has_attributes d) range.attribute_order (recursion_from_All IsFullName (keys_of attributes) kept.properties.attribute_names)
          (both_values IsValue AttributeInRange AttributeReads attribute_reads (values_of attributes) (recursion_from_All IsValue (values_of attributes) kept.properties.attribute_values) range.attributes);
      capacity = λ p. capacity_back attribute_json driver p (device_json d) attributes capacity (device_has_attributes d) (device_has_capacity d) kept.properties.together range.capacity_order (recursion_from_All IsFullName (keys_of capacity) kept.properties.capacity_names) range.capacity;
      consumes = λ p. consumes_back p (device_json d) d.consumes (device_has_draws d) kept.draws_once (both_values IsDraw DrawInRange DrawReads draw_reads d.consumes (recursion_from_All IsDraw d.consumes kept.draws) range.consumes) kept.drawn;
      nodes = λ p. device_nodes_back per_device p (device_json d) d.nodes (device_has_node_name d) (device_has_selector d) (device_has_all_nodes d) kept.nodes range.nodes;
      taints = λ p. taints_back p (device_json d) d.taints (device_has_taints d) kept.taints;
    }

-- ---- a field of all devices

weaker : {A : Type 0} (P Q : A → Type 0) (xs : List A) → ((x : A) → P x → Q x) → AllByRecursion P xs → AllByRecursion Q xs
weaker P Q [] f h = tt
weaker P Q (x ∷ xs) f h = (f x h.0, weaker P Q xs f h.1)

column_back : {A B : Type 0} (reading : List Step → Data → Result B FieldError) (json : A → Data) (read_as : A → B) (path : List Step) (place : ℕ) (before : List B) (xs : List A) → AllByRecursion (λ x. (p : List Step) → reading p (json x) ≡ Ok (read_as x)) xs
    → each_from (alone reading) path place before (listed json xs) ≡ Ok (before ++ map read_as xs)
column_back reading json read_as path place before [] h = rw (append-nil before) refl
column_back reading json read_as path place before (x ∷ xs) h =
    rw (h.0 (path ++ Place place ∷ [])) (column_back reading json read_as path (place + 1) (before ++ read_as x ∷ []) xs h.1 ∙ ap Ok (append_assoc before (read_as x ∷ []) (map read_as xs)))

abbrev device_name : Device → List ℕ
device_name d = d.name

name_back : (p : List Step) (before : List (List ℕ)) (d : Device) (rest : List (List ℕ)) → IsLabel d.name → AreDifferent (before ++ d.name ∷ rest) → new_device_name p before (device_json d) ≡ Ok d.name
unfolding device_json
name_back p before d rest label differ =
    rw (label_read p (device_json d) (codes "name") d.name (device_has_name d) label, is_new before d.name rest differ) refl

names_back : (path : List Step) (place : ℕ) (before : List (List ℕ)) (ds : List Device) → AreDifferent (before ++ map device_name ds) → AllByRecursion (λ d. IsLabel d.name) ds → each_from new_device_name path place before (listed device_json ds) ≡ Ok (before ++ map device_name ds)
names_back path place before [] differ labels = rw (append-nil before) refl
names_back path place before (d ∷ ds) differ labels =
    let same : (before ++ d.name ∷ []) ++ map device_name ds ≡ before ++ d.name ∷ map device_name ds = append_assoc before (d.name ∷ []) (map device_name ds) in
    let more : AreDifferent ((before ++ d.name ∷ []) ++ map device_name ds) = rw same differ in
    rw (name_back (path ++ Place place ∷ []) before d (map device_name ds) labels.0 differ) (names_back path (place + 1) (before ++ d.name ∷ []) ds more labels.1 ∙ ap Ok same)

nothing_from : (path : List Step) (place : ℕ) (ds : List Device) → nothing_more_from path place (listed device_json ds) ≡ Ok tt
nothing_from path place [] = refl
nothing_from path place (d ∷ ds) =
    rw (nothing_printed (path ++ Place place ∷ []) d) (nothing_from path (place + 1) ds)

-- ---- all devices

abbrev attributes_in : Device → List (QualName × Attribute)
attributes_in d = d.properties.attributes

abbrev capacity_in : Device → List (QualName × ℤ)
capacity_in d = d.properties.capacity

abbrev draws_in : Device → List CounterConsumption
draws_in d = d.consumes

abbrev nodes_in : Device → Option Nodes
nodes_in d = d.nodes

abbrev taints_in : Device → List Taint
taints_in d = d.taints

devices_joined : (ds : List Device) → devices_with (map device_name ds) (map attributes_in ds) (map capacity_in ds) (map draws_in ds) (map nodes_in ds) (map taints_in ds) ≡ ds
devices_joined [] = refl
devices_joined (d ∷ ds) = ap (λ l. d ∷ l) (devices_joined ds)

labels_of : (ds : List Device) → AllByRecursion IsLabel (map device_name ds) → AllByRecursion (λ d. IsLabel d.name) ds
labels_of [] h = tt
labels_of (d ∷ ds) h = (h.0, labels_of ds h.1)

rows_back : (driver : List ℕ) (per_device : Bool) (path : List Step) (ds : List Device) → AreDifferent (map device_name ds) → AllByRecursion IsLabel (map device_name ds) → AllByRecursion (DeviceReads driver per_device) ds → rows_of driver per_device path (listed device_json ds) ≡ Ok ds
rows_back driver per_device path ds differ labels all =
    let reads = DeviceReads driver per_device in
    let names = names_back path 0 [] ds differ (labels_of ds labels) in
    let attributes = column_back (attributes_of driver) device_json attributes_in path 0 [] ds (weaker reads (λ d. (p : List Step) → attributes_of driver p (device_json d) ≡ Ok d.properties.attributes) ds (λ d h. h.attributes) all) in
    let capacity = column_back (capacity_of driver) device_json capacity_in path 0 [] ds (weaker reads (λ d. (p : List Step) → capacity_of driver p (device_json d) ≡ Ok d.properties.capacity) ds (λ d h. h.capacity) all) in
    let consumes = column_back consumes_of device_json draws_in path 0 [] ds (weaker reads (λ d. (p : List Step) → consumes_of p (device_json d) ≡ Ok d.consumes) ds (λ d h. h.consumes) all) in
    let nodes = column_back (device_nodes_of per_device) device_json nodes_in path 0 [] ds (weaker reads (λ d. (p : List Step) → device_nodes_of per_device p (device_json d) ≡ Ok d.nodes) ds (λ d h. h.nodes) all) in
    let taints = column_back taints_at device_json taints_in path 0 [] ds (weaker reads (λ d. (p : List Step) → taints_at p (device_json d) ≡ Ok d.taints) ds (λ d h. h.taints) all) in
    rw (names, attributes, capacity, consumes, nodes, taints, nothing_from path 0 ds) (ap Ok (devices_joined ds))

devices_found : (driver : List ℕ) (per_device : Bool) (path : List Step) (d : Data) (ds : List Device) → get (codes "devices") d ≡ list_if device_json ds → length ds ≤ devices_most → AreDifferent (map device_name ds) → AllByRecursion IsLabel (map device_name ds) → AllByRecursion (DeviceReads driver per_device) ds
    → devices_at driver per_device path d ≡ Ok ds
devices_found driver per_device path d [] h few differ labels all = rw h refl
devices_found driver per_device path d (x ∷ xs) h few differ labels all =
    let short : nat_lt devices_most (items_length (listed device_json (x ∷ xs))) ≡ false = rw (listed_length device_json (x ∷ xs)) (not_longer devices_most (length (x ∷ xs)) few) in
    rw (h, short) (rows_back driver per_device (path ++ Member (codes "devices") ∷ []) (x ∷ xs) differ labels all)

pub devices_back : (driver : List ℕ) (per_device : Bool) (path : List Step) (d : Data) (ds : List Device) → get (codes "devices") d ≡ list_if device_json ds → length ds ≤ devices_most → AreDifferent (map (λ x. x.name) ds) → AllByRecursion IsLabel (map (λ x. x.name) ds) → AllByRecursion (KeepsLimits per_device) ds → AllByRecursion DeviceInRange ds
    → devices_at driver per_device path d ≡ Ok ds
devices_back driver per_device path d ds h few differ labels kept range =
    devices_found driver per_device path d ds h few differ labels (both_values (KeepsLimits per_device) DeviceInRange (DeviceReads driver per_device) (device_reads driver per_device) ds kept range)
