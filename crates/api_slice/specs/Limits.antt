-- The limits and the name rules that each slice keeps that is read (API reference of
-- resource.k8s.io/v1).
use Rattle.std.specs.Prelude.{◌≡◌, ℕ, ◌≤◌, ◌≢◌, ◌||◌, ℤ, pos, Bool, true, List, [], map, length, Option, Some, is_some, codes, false}
use Rattle.std.specs.List.{All, sum_by}
use Rattle.std.specs.Map.{keys_of, values_of}
use Rattle.node_select.specs.declared.requirement.Requirement.{Requirement}
use Rattle.node_select.specs.declared.requirement.Test.{Test}
use Rattle.node_select.specs.declared.requirement.Test.TheVariants.{OneOf, NoneOf, Present, Absent, Above, Below}
use Rattle.node_select.specs.declared.selector.Selector.{Selector}
use Rattle.object_fields.specs.Limits.{VersionKept}
use Rattle.object_fields.specs.Meta.{name_most}
use Rattle.object_fields.specs.Names.{is_dns_label, is_dns_name, is_pool_name, pool_most}
use Rattle.object_fields.specs.NewNames.{AreDifferent}
use Rattle.device_taints.specs.Limits.{TaintsKept}
use Rattle.api_slice.specs.Consumption.{amounts_most}
use Rattle.api_slice.specs.Counters.{counters_most}
use Rattle.api_slice.specs.Devices.{devices_most}
use Rattle.api_slice.specs.Drivers.{IsDriver}
use Rattle.api_slice.specs.Fields.{SliceFields}
use Rattle.api_slice.specs.Nodes.{is_empty, is_per_device}
use Rattle.api_slice.specs.Properties.{AreProperties}
use Rattle.api_slice.specs.Slices.{signed_most}
use Rattle.api_slice.specs.declared.types.CounterConsumption.{CounterConsumption}
use Rattle.api_slice.specs.declared.types.CounterSet.{CounterSet}
use Rattle.api_slice.specs.declared.types.Device.{Device}
use Rattle.api_slice.specs.declared.types.Nodes.{Nodes}
use Rattle.api_slice.specs.declared.types.Nodes.TheVariants as nodes
use Rattle.api_slice.specs.declared.types.Pool.{Pool}
use Rattle.api_slice.specs.declared.types.SliceNodes.{SliceNodes}
use Rattle.api_slice.specs.declared.types.SliceNodes.TheVariants as slice

abbrev pub IsLabel : List ℕ → Type 0
IsLabel name = is_dns_label name ≡ true

-- a number that isn't negative
pub record IsAmount (n : ℤ) : Type 0 where
  pub size : ℕ
  pub is : n ≡ pos size

-- ---- nodes

-- In and NotIn have one value or more
abbrev pub HasValues : Test → Type 0
HasValues (OneOf texts) = 1 ≤ length texts
HasValues (NoneOf texts) = 1 ≤ length texts
HasValues Present = Unit {0}
HasValues Absent = Unit {0}
HasValues (Above n) = Unit {0}
HasValues (Below n) = Unit {0}

-- a requirement on a label
pub record IsExpression (r : Requirement) : Type 0 where
  pub values : HasValues r.test

-- whether the operator is In or NotIn
abbrev pub is_of_values : Test → Bool
is_of_values (OneOf texts) = true
is_of_values (NoneOf texts) = true
is_of_values Present = false
is_of_values Absent = false
is_of_values (Above n) = false
is_of_values (Below n) = false

-- a requirement on a field, of which `metadata.name` alone is known, with In and NotIn
pub record IsField (r : Requirement) : Type 0 where
  pub key : r.key ≡ codes "metadata.name"
  pub operator : is_of_values r.test ≡ true
  pub values : HasValues r.test

pub record IsSelector (s : Selector) : Type 0 where
  pub expressions : All IsExpression s.expressions
  pub fields : All IsField s.fields

abbrev pub IsNodes : Nodes → Type 0
IsNodes (nodes.Named name) = name ≢ []
IsNodes (nodes.Selected selector) = IsSelector selector
IsNodes nodes.All = Unit {0}

abbrev pub IsSliceNodes : SliceNodes → Type 0
IsSliceNodes (slice.Nodes n) = IsNodes n
IsSliceNodes slice.PerDevice = Unit {0}

-- Nodes of a device, set if and only if its slice leaves them to the devices.
pub record IsDue (per_device : Bool) (own : Option Nodes) : Type 0 where
  pub there : is_some own ≡ per_device
  pub nodes : (n : Nodes) → own ≡ Some n → IsNodes n

-- ---- counters

pub record IsCounterSet (c : CounterSet) : Type 0 where
  pub name : IsLabel c.name
  pub counters : All IsLabel (keys_of c.counters)
  pub amounts : All IsAmount (values_of c.counters)

-- what is drawn from one counter set
pub record IsDraw (c : CounterConsumption) : Type 0 where
  pub amounts : All IsAmount (values_of c.amounts)

-- ---- devices

-- of a slice in which each device has nodes of its own or none has
pub record KeepsLimits (per_device : Bool) (d : Device) : Type 0 where
  pub properties : AreProperties d.properties
  pub draws : All IsDraw d.consumes
  pub draws_once : AreDifferent (map (λ c. c.set) d.consumes)
  pub drawn : sum_by (λ c. length c.amounts) d.consumes ≤ amounts_most
  pub nodes : IsDue per_device d.nodes
  pub taints : TaintsKept d.taints

-- ---- the slice

pub record IsPool (p : Pool) : Type 0 where
  pub name : length p.name ≤ pool_most
  pub name_form : is_pool_name p.name ≡ true
  pub generation : p.generation ≤ signed_most
  pub slices_least : 1 ≤ p.slices
  pub slices_most : p.slices ≤ signed_most

-- a slice has devices or counter sets, not both
pub record IsWithinLimits (s : SliceFields) : Type 0 where
  pub name : length s.name ≤ name_most
  pub name_form : is_dns_name s.name ≡ true
  pub version : VersionKept s.version
  pub driver : IsDriver s.driver
  pub pool : IsPool s.pool
  pub nodes : IsSliceNodes s.nodes
  pub sets : All IsCounterSet s.counters
  pub set_names : AreDifferent (map (λ c. c.name) s.counters)
  pub counters : sum_by (λ c. length c.counters) s.counters ≤ counters_most
  pub device_count : length s.devices ≤ devices_most
  pub device_names : All IsLabel (map (λ d. d.name) s.devices)
  pub device_names_differ : AreDifferent (map (λ d. d.name) s.devices)
  pub devices : All (KeepsLimits (is_per_device s.nodes)) s.devices
  pub one_kind : (is_empty s.counters || is_empty s.devices) ≡ true
