-- The devices of a slice. A row of fields is read of all devices before the next row of any.
use Rattle.std.specs.Prelude.{ℕ, ◌+◌, ℤ, Bool, List, [], ◌∷◌, ◌++◌, Option, Result, Ok, ⊤, codes}
use Rattle.serde_json.specs.Data.{Data, Items, no_items, item}
use Rattle.object_fields.specs.Fields.{dns_label_at, field_error, object_value, optional_at, short_list_at, unless, unset_at, ◌>>=◌}
use Rattle.object_fields.specs.Lists.{each, each_beside, items_or_none}
use Rattle.object_fields.specs.NewNames.{is_among}
use Rattle.object_fields.specs.declared.error.FieldError.{FieldError}
use Rattle.object_fields.specs.declared.kind.FieldErrorKind.TheVariants.{Doubled}
use Rattle.object_fields.specs.declared.path.Step.{Step}
use Rattle.object_fields.specs.declared.path.Step.TheVariants.{Member, Place}
use Rattle.object_fields.specs.declared.qualified.QualName.{QualName}
use Rattle.device_taints.specs.Reading.{taints_at}
use Rattle.device_taints.specs.declared.types.Taint.{Taint}
use Rattle.api_slice.specs.Attributes.{attributes_of}
use Rattle.api_slice.specs.Capacity.{capacity_of}
use Rattle.api_slice.specs.Consumption.{consumes_of}
use Rattle.api_slice.specs.Nodes.{device_nodes_of}
use Rattle.api_slice.specs.declared.device.Columns.{Columns}
use Rattle.api_slice.specs.declared.types.Attribute.{Attribute}
use Rattle.api_slice.specs.declared.types.CounterConsumption.{CounterConsumption}
use Rattle.api_slice.specs.declared.types.Device.{Device}
use Rattle.api_slice.specs.declared.types.Nodes.{Nodes}

-- ---- names

-- a DNS label, which no device before has
abbrev pub new_device_name : List Step → List (List ℕ) → Data → Result (List ℕ) FieldError
new_device_name path before value =
    object_value path value >>= dns_label_at path (codes "name") >>= λ name.
    unless (field_error path (codes "name") Doubled) (is_among name before) name

-- ---- members that are left out

abbrev pub nothing_more : List Step → Data → Result ⊤ FieldError
nothing_more path d =
    unset_at path (codes "allowMultipleAllocations") d >>= λ nothing.
    unset_at path (codes "bindingConditions") d >>= λ nothing.
    unset_at path (codes "bindingFailureConditions") d >>= λ nothing.
    unset_at path (codes "bindsToNode") d

abbrev pub nothing_more_from : List Step → ℕ → Items → Result ⊤ FieldError
nothing_more_from path place no_items = Ok tt
nothing_more_from path place (item d ds) =
    nothing_more (path ++ Place place ∷ []) d >>= λ nothing. nothing_more_from path (place + 1) ds

-- ---- row by row

-- the devices of which these are the fields, each list in the order of the devices
abbrev pub devices_with : List (List ℕ) → List (List (QualName × Attribute)) → List (List (QualName × ℤ)) → List (List CounterConsumption) → List (Option Nodes) → List (List Taint) → List Device
devices_with [] attributes capacity consumes nodes taints = []
devices_with (n ∷ ns) [] capacity consumes nodes taints = []
devices_with (n ∷ ns) (a ∷ attributes) [] consumes nodes taints = []
devices_with (n ∷ ns) (a ∷ attributes) (c ∷ capacity) [] nodes taints = []
devices_with (n ∷ ns) (a ∷ attributes) (c ∷ capacity) (k ∷ consumes) [] taints = []
devices_with (n ∷ ns) (a ∷ attributes) (c ∷ capacity) (k ∷ consumes) (w ∷ nodes) [] = []
devices_with (n ∷ ns) (a ∷ attributes) (c ∷ capacity) (k ∷ consumes) (w ∷ nodes) (t ∷ taints) =
    record { name = n; properties = record { attributes = a; capacity = c }; consumes = k; nodes = w; taints = t } ∷ devices_with ns attributes capacity consumes nodes taints

abbrev pub devices_of : Columns → List Device
devices_of c = devices_with c.names c.attributes c.capacity c.consumes c.nodes c.taints

-- names, attributes, capacities, what is drawn, where, and taints
abbrev pub columns_of : List ℕ → Bool → List Step → Items → Result Columns FieldError
columns_of driver per_device path ds =
    each_beside new_device_name path ds >>= λ names.
    each (attributes_of driver) path ds >>= λ attributes.
    each (capacity_of driver) path ds >>= λ capacity.
    each consumes_of path ds >>= λ consumes.
    each (device_nodes_of per_device) path ds >>= λ nodes.
    each taints_at path ds >>= λ taints.
    Ok (record { names = names; attributes = attributes; capacity = capacity; consumes = consumes; nodes = nodes; taints = taints })

-- the columns, then the members that are left out
abbrev pub rows_of : List ℕ → Bool → List Step → Items → Result (List Device) FieldError
rows_of driver per_device path ds =
    columns_of driver per_device path ds >>= λ columns.
    nothing_more_from path 0 ds >>= λ nothing.
    Ok (devices_of columns)

-- a slice has at most 128 devices
abbrev pub devices_most : ℕ
devices_most = 128

-- devices may be missing
abbrev pub devices_at : List ℕ → Bool → List Step → Data → Result (List Device) FieldError
devices_at driver per_device path spec =
    optional_at (short_list_at devices_most) path (codes "devices") spec >>= λ ds.
    rows_of driver per_device (path ++ Member (codes "devices") ∷ []) (items_or_none ds)
