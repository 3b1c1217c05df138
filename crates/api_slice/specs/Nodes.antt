-- Where devices are: the members `nodeName`, `nodeSelector`, `allNodes` and, of a slice,
-- `perDeviceNodeSelection`.
use Rattle.std.specs.Prelude.{ℕ, Bool, true, false, List, [], ◌∷◌, ◌++◌, Option, Some, None, option_map, Result, Ok, codes, unwrap_or, if◌then◌else◌}
use Rattle.serde_json.specs.Data.{Data}
use Rattle.node_select.specs.declared.selector.Selector.{Selector}
use Rattle.object_fields.specs.Fields.{error_at, field_at, optional_at, some_or, text_at, truth_at, ◌>>=◌}
use Rattle.object_fields.specs.declared.error.FieldError.{FieldError}
use Rattle.object_fields.specs.declared.kind.FieldErrorKind.TheVariants.{NotOne}
use Rattle.object_fields.specs.declared.path.Step.{Step}
use Rattle.object_fields.specs.declared.path.Step.TheVariants.{Member}
use Rattle.api_slice.specs.Selectors.{selector_of}
use Rattle.api_slice.specs.declared.nodes.Places.{Places}
use Rattle.api_slice.specs.declared.types.Nodes.{Nodes}
use Rattle.api_slice.specs.declared.types.Nodes.TheVariants.{Named, Selected, All}
use Rattle.api_slice.specs.declared.types.SliceNodes.{SliceNodes}
use Rattle.api_slice.specs.declared.types.SliceNodes.TheVariants as slice

-- ---- the members that slices and devices have, each with whether it is set

-- an empty name is unset
abbrev pub not_empty : Option (List ℕ) → Option (List ℕ)
not_empty None = None
not_empty (Some []) = None
not_empty (Some (b ∷ bs)) = Some (b ∷ bs)

abbrev pub node_name_at : List Step → Data → Result (Option (List ℕ)) FieldError
node_name_at path d = optional_at text_at path (codes "nodeName") d >>= λ name. Ok (not_empty name)

abbrev pub selector_at : List Step → List ℕ → Data → Result Selector FieldError
selector_at path name d = field_at path name d >>= selector_of (path ++ Member name ∷ [])

-- false is unset
abbrev pub flag_at : List ℕ → List Step → Data → Result Bool FieldError
flag_at name path d = optional_at truth_at path name d >>= λ flag. Ok (unwrap_or flag false)

-- name, selector and `allNodes`
abbrev pub places_at : List Step → Data → Result Places FieldError
places_at path d =
    node_name_at path d >>= λ name.
    optional_at selector_at path (codes "nodeSelector") d >>= λ selector.
    flag_at (codes "allNodes") path d >>= λ all.
    Ok (record { name = name; selector = selector; all = all })

-- ---- exactly one

abbrev pub named : Option (List ℕ) → List Nodes
named None = []
named (Some name) = Named name ∷ []

abbrev pub selected : Option Selector → List Nodes
selected None = []
selected (Some selector) = Selected selector ∷ []

abbrev pub everywhere : Bool → List Nodes
everywhere false = []
everywhere true = All ∷ []

abbrev pub set_of : Option (List ℕ) → Option Selector → Bool → List Nodes
set_of name selector all = named name ++ selected selector ++ everywhere all

-- those of the three that are set
abbrev pub all_set : Places → List Nodes
all_set places = set_of places.name places.selector places.all

-- the one element of a list of one
abbrev pub only : {A : Type 0} → List A → Option A
only [] = None
only (x ∷ []) = Some x
only (x ∷ y ∷ zs) = None

abbrev pub is_empty : {A : Type 0} → List A → Bool
is_empty [] = true
is_empty (x ∷ xs) = false

-- no element, and so no nodes
abbrev pub none_of : {A B : Type 0} → B → List A → Option B
none_of nothing nodes = if is_empty nodes then Some nothing else None

-- `perDeviceNodeSelection` alone, or one of the three alone
abbrev pub one_of_slice : List Nodes → Bool → Option SliceNodes
one_of_slice nodes true = none_of slice.PerDevice nodes
one_of_slice nodes false = option_map slice.Nodes (only nodes)

-- Of a slice: exactly one of the four is set.
abbrev pub slice_nodes_at : List Step → Data → Result SliceNodes FieldError
slice_nodes_at path d =
    places_at path d >>= λ places.
    flag_at (codes "perDeviceNodeSelection") path d >>= λ per_device.
    some_or (error_at path NotOne) (one_of_slice (all_set places) per_device)

-- whether a slice leaves it to its devices where they are
abbrev pub is_per_device : SliceNodes → Bool
is_per_device (slice.Nodes nodes) = false
is_per_device slice.PerDevice = true

-- one where it does, else none
abbrev pub as_due : Bool → List Nodes → Option (Option Nodes)
as_due true nodes = option_map Some (only nodes)
as_due false nodes = none_of None nodes

-- of a device
abbrev pub device_nodes_of : Bool → List Step → Data → Result (Option Nodes) FieldError
device_nodes_of per_device path d =
    places_at path d >>= λ places. some_or (error_at path NotOne) (as_due per_device (all_set places))
