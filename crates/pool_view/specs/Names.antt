-- Names, their order and their equality.
use Rattle.std.specs.Prelude.{ℕ, List, Bool, ◌&&◌, Option, nat_eq}
use Rattle.std.specs.Ordering.{nat_cmp, ordering_then}
use Rattle.std.specs.declared.cmp.Ordering.{Ordering}
use Rattle.std.specs.Cmp.Lexicographic.{slice_cmp, pointwise}
use Rattle.std.specs.BTreeMap.{is_at}
use Rattle.std.specs.Map.{lookup}
use Rattle.object_fields.specs.declared.key.Key.{Key}
use Rattle.object_fields.specs.declared.key.DeviceId.{DeviceId}

-- byte by byte
abbrev pub text_cmp : List ℕ → List ℕ → Ordering
text_cmp = slice_cmp nat_cmp

abbrev pub text_eq : List ℕ → List ℕ → Bool
text_eq = pointwise nat_eq

-- by namespace, and then by name
abbrev pub key_cmp : Key → Key → Ordering
key_cmp a b = ordering_then (text_cmp a.namespace b.namespace) (text_cmp a.name b.name)

abbrev pub key_eq : Key → Key → Bool
key_eq a b = text_eq a.namespace b.namespace && text_eq a.name b.name

abbrev pub device_eq : DeviceId → DeviceId → Bool
device_eq a b = text_eq a.driver b.driver && (text_eq a.pool b.pool && text_eq a.device b.device)

-- what a table has at a name
abbrev pub at_name : {V : Type 0} → List (List ℕ × V) → List ℕ → Option V
at_name table name = lookup (is_at (text_cmp name)) table

-- what a table has at a key
abbrev pub at_key : {V : Type 0} → List (Key × V) → Key → Option V
at_key table key = lookup (is_at (key_cmp key)) table
