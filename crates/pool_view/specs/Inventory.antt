-- The nodes and the slices of a cluster.
use Rattle.std.specs.Prelude.{ℕ, ◌≡◌, ◌≤◌, ◌+◌, Bool, nat_le, List, [], ◌∷◌, Option, None, Some, length}
use Rattle.std.specs.BTreeMap.{insert_entry, is_at}
use Rattle.std.specs.List.{AllByRecursion}
use Rattle.std.specs.Map.{remove_entry, set_value}
use Rattle.api_cluster.specs.declared.types.Node.{Node}
use Rattle.api_slice.specs.declared.types.ResourceSlice.{ResourceSlice}
use Rattle.pool_view.specs.declared.stored.Stored.{Stored}
use Rattle.pool_view.specs.Names.{at_name, text_cmp}

-- stored objects, by name
abbrev pub Named : Type 0 → Type 0
Named T = List (List ℕ × Stored T)

-- an object that the entry at an index created
abbrev pub created : {T : Type 0} → ℕ → T → Stored T
created place object = record { object = object; uid = place; version = place }

-- an object that the entry at an index replaced another with, whose uid it keeps
abbrev pub updated : {T : Type 0} → ℕ → T → Stored T → Stored T
updated place object old = record { object = object; uid = old.uid; version = place }

abbrev pub put_by : {T : Type 0} → ℕ → List ℕ → T → Named T → Option (Stored T) → Named T
put_by place name object table None = insert_entry text_cmp table name (created place object)
put_by place name object table (Some old) = set_value (is_at (text_cmp name)) table (updated place object old)

-- the objects with one at its name: it is updated if it exists, and created otherwise
abbrev pub with_named : {T : Type 0} → ℕ → List ℕ → T → Named T → Named T
with_named place name object table = put_by place name object table (at_name table name)

-- the objects without the one at a name
abbrev pub without_named : {T : Type 0} → List ℕ → Named T → Named T
without_named name table = remove_entry (is_at (text_cmp name)) table

-- an inventory as contracts see it
pub record InventoryFields : Type 0 where
  pub nodes : Named Node
  pub slices : Named ResourceSlice

-- nothing
abbrev pub empty_inventory : InventoryFields
empty_inventory = record { nodes = []; slices = [] }

-- with a node that the entry at the index creates or updates
abbrev pub with_node : ℕ → Node → InventoryFields → InventoryFields
with_node place x i = record i { nodes = with_named place x.name x i.nodes }

-- with a slice that the entry at the index creates or updates
abbrev pub with_slice : ℕ → ResourceSlice → InventoryFields → InventoryFields
with_slice place x i = record i { slices = with_named place x.name x i.slices }

-- without the node of a name
abbrev pub without_node : List ℕ → InventoryFields → InventoryFields
without_node name i = record i { nodes = without_named name i.nodes }

-- without the slice of a name
abbrev pub without_slice : List ℕ → InventoryFields → InventoryFields
without_slice name i = record i { slices = without_named name i.slices }

-- how many devices all slices have
abbrev pub device_count : Named ResourceSlice → ℕ
device_count [] = 0
device_count (e ∷ es) = length e.1.object.devices + device_count es

abbrev pub devices_by : Option (Stored ResourceSlice) → ℕ
devices_by None = 0
devices_by (Some e) = length e.object.devices

-- how many devices all slices may have
abbrev pub devices_most : ℕ
devices_most = 65536

-- all slices have at most the devices that they may have, with the slice in place of the one of its name
abbrev pub has_room_for : Named ResourceSlice → ResourceSlice → Bool
has_room_for slices x = nat_le (device_count (without_named x.name slices) + length x.devices) devices_most

-- each slice is at its own name
abbrev pub AtOwnNames : Named ResourceSlice → Type 0
AtOwnNames slices = AllByRecursion (λ e. e.0 ≡ e.1.object.name) slices

-- the number is that of the devices, they aren't too many, and each slice is at its own name
pub record IsKept (slices : Named ResourceSlice) (devices : ℕ) : Type 0 where
  pub sum : devices ≡ device_count slices
  pub within : devices ≤ devices_most
  pub named : AtOwnNames slices
