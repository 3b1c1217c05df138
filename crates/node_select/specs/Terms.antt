-- What a term of a node selector means (NodeSelectorTerm of the Kubernetes API reference).
use Rattle.std.specs.Prelude.{ℕ, ◌&&◌, Bool, true, false, not, ℤ, int_lt, List, [], ◌∷◌, Option, Some, None, is_some, codes, if◌then◌else◌}
use Rattle.std.specs.BTreeMap.{is_at}
use Rattle.std.specs.Cmp.Lexicographic.{slice_cmp}
use Rattle.std.specs.List.{list_all, list_any}
use Rattle.std.specs.Map.{lookup}
use Rattle.std.specs.Ordering.{nat_cmp}
use Rattle.std.specs.Str.{bytes_eq}
use Rattle.node_select.specs.Numbers.{whole_of}
use Rattle.node_select.specs.declared.selector.Selector.{Selector}
use Rattle.node_select.specs.declared.requirement.Requirement.{Requirement}
use Rattle.node_select.specs.declared.requirement.Test.{Test}
use Rattle.node_select.specs.declared.requirement.Test.TheVariants.{OneOf, NoneOf, Present, Absent, Above, Below}

abbrev pub is_among : List ℕ → List (List ℕ) → Bool
is_among value values = list_any (λ other. bytes_eq other value) values

-- a number that isn't there is neither above nor below another
abbrev pub is_above : ℤ → Option ℤ → Bool
is_above least None = false
is_above least (Some n) = int_lt least n

abbrev pub is_below : ℤ → Option ℤ → Bool
is_below most None = false
is_below most (Some n) = int_lt n most

-- whether the test holds for a label's value, or for a label that isn't there
abbrev pub test_holds : Test → Option (List ℕ) → Bool
test_holds (OneOf values) None = false
test_holds (OneOf values) (Some value) = is_among value values
test_holds (NoneOf values) None = true
test_holds (NoneOf values) (Some value) = not (is_among value values)
test_holds Present value = is_some value
test_holds Absent value = not (is_some value)
test_holds (Above least) None = false
test_holds (Above least) (Some value) = is_above least (whole_of value)
test_holds (Below most) None = false
test_holds (Below most) (Some value) = is_below most (whole_of value)

abbrev pub label_at : List ℕ → List (List ℕ × List ℕ) → Option (List ℕ)
label_at key labels = lookup (is_at (slice_cmp nat_cmp key)) labels

-- the one field of a node that a selector knows is its name
abbrev pub field_at : List ℕ → List ℕ → Option (List ℕ)
field_at key name = if bytes_eq key (codes "metadata.name") then Some name else None

abbrev pub expression_holds : List (List ℕ × List ℕ) → Requirement → Bool
expression_holds labels r = test_holds r.test (label_at r.key labels)

abbrev pub field_holds : List ℕ → Requirement → Bool
field_holds name r = test_holds r.test (field_at r.key name)

abbrev pub is_empty : List Requirement → Bool
is_empty [] = true
is_empty (r ∷ rs) = false

-- All requirements hold. A term without any holds for no node.
abbrev pub term_holds : Selector → List ℕ → List (List ℕ × List ℕ) → Bool
term_holds s name labels =
    not (is_empty s.expressions && is_empty s.fields) && list_all (expression_holds labels) s.expressions && list_all (field_holds name) s.fields
