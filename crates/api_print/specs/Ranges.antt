-- What the types of a slice's fields keep beyond its limits: numbers are in the ranges of their types, and tables
-- are in the order of their keys.
use Rattle.std.specs.Prelude.{◌≡◌, ℕ, ◌<◌, ◌^◌, ℤ, pos, negsuc, List, Option, Some, None, Ok}
use Rattle.std.specs.Cmp.Lexicographic.{slice_cmp}
use Rattle.std.specs.List.{AllByRecursion}
use Rattle.std.specs.List.Sorted.{IsStrictlySortedBy}
use Rattle.std.specs.Map.{keys_of, values_of}
use Rattle.std.specs.Ordering.{nat_cmp}
use Rattle.node_select.specs.declared.requirement.Requirement.{Requirement}
use Rattle.node_select.specs.declared.requirement.Test.{Test}
use Rattle.node_select.specs.declared.requirement.Test.TheVariants.{OneOf, NoneOf, Present, Absent, Above, Below}
use Rattle.node_select.specs.declared.selector.Selector.{Selector}
use Rattle.quantity.specs.Printed.{printed}
use Rattle.quantity.specs.Value.{quantity_value}
use Rattle.api_slice.specs.Attributes.{qual_cmp}
use Rattle.api_slice.specs.declared.types.Attribute.{Attribute}
use Rattle.api_slice.specs.declared.types.Attribute.TheVariants as attribute
use Rattle.api_slice.specs.declared.types.CounterConsumption.{CounterConsumption}
use Rattle.api_slice.specs.declared.types.CounterSet.{CounterSet}
use Rattle.api_slice.specs.declared.types.Device.{Device}
use Rattle.api_slice.specs.declared.types.Nodes.{Nodes}
use Rattle.api_slice.specs.declared.types.Nodes.TheVariants as nodes
use Rattle.api_slice.specs.declared.types.ResourceSlice.{ResourceSlice}
use Rattle.api_slice.specs.declared.types.SliceNodes.{SliceNodes}
use Rattle.api_slice.specs.declared.types.SliceNodes.TheVariants as slice

-- ---- numbers

-- from -2^63 to 2^63-1
abbrev pub IsSigned : ℤ → Type 0
IsSigned (pos n) = n < 2 ^ 63
IsSigned (negsuc n) = n < 2 ^ 63

-- the text of a quantity has it as its value
pub record QuantityInRange (n : ℤ) : Type 0 where
  pub reads : quantity_value (printed n) ≡ Ok n

abbrev pub AttributeInRange : Attribute → Type 0
AttributeInRange (attribute.Int n) = IsSigned n
AttributeInRange (attribute.Bool b) = Unit {0}
AttributeInRange (attribute.Text text) = Unit {0}
AttributeInRange (attribute.Version text) = Unit {0}

-- ---- node selectors

abbrev pub TestInRange : Test → Type 0
TestInRange (OneOf texts) = Unit {0}
TestInRange (NoneOf texts) = Unit {0}
TestInRange Present = Unit {0}
TestInRange Absent = Unit {0}
TestInRange (Above n) = IsSigned n
TestInRange (Below n) = IsSigned n

pub record RequirementInRange (r : Requirement) : Type 0 where
  pub test : TestInRange r.test

pub record SelectorInRange (s : Selector) : Type 0 where
  pub expressions : AllByRecursion RequirementInRange s.expressions
  pub fields : AllByRecursion RequirementInRange s.fields

abbrev pub NodesInRange : Nodes → Type 0
NodesInRange (nodes.Named name) = Unit {0}
NodesInRange (nodes.Selected selector) = SelectorInRange selector
NodesInRange nodes.All = Unit {0}

abbrev pub OwnInRange : Option Nodes → Type 0
OwnInRange None = Unit {0}
OwnInRange (Some n) = NodesInRange n

abbrev pub SliceNodesInRange : SliceNodes → Type 0
SliceNodesInRange (slice.Nodes n) = NodesInRange n
SliceNodesInRange slice.PerDevice = Unit {0}

-- ---- tables of amounts, devices and slices

pub record CountersInRange (es : List (List ℕ × ℤ)) : Type 0 where
  pub order : IsStrictlySortedBy (slice_cmp nat_cmp) (keys_of es)
  pub amounts : AllByRecursion QuantityInRange (values_of es)

pub record SetInRange (s : CounterSet) : Type 0 where
  pub counters : CountersInRange s.counters

pub record DrawInRange (c : CounterConsumption) : Type 0 where
  pub amounts : CountersInRange c.amounts

pub record DeviceInRange (d : Device) : Type 0 where
  pub attribute_order : IsStrictlySortedBy qual_cmp (keys_of d.properties.attributes)
  pub attributes : AllByRecursion AttributeInRange (values_of d.properties.attributes)
  pub capacity_order : IsStrictlySortedBy qual_cmp (keys_of d.properties.capacity)
  pub capacity : AllByRecursion QuantityInRange (values_of d.properties.capacity)
  pub consumes : AllByRecursion DrawInRange d.consumes
  pub nodes : OwnInRange d.nodes

pub record SliceInRange (s : ResourceSlice) : Type 0 where
  pub nodes : SliceNodesInRange s.nodes
  pub counters : AllByRecursion SetInRange s.counters
  pub devices : AllByRecursion DeviceInRange s.devices
