-- At which index of a list the items of a name are.
use Rattle.std.specs.Prelude.{◌≡◌, ℕ, suc, Bool, List, [], ◌∷◌, Option, Some, None, option_map, is_some, if◌then◌else◌}
use Rattle.std.specs.BTreeMap.{insert_entry, is_at}
use Rattle.std.specs.Cmp.Lexicographic.{slice_cmp}
use Rattle.std.specs.Map.{lookup}
use Rattle.std.specs.Ordering.{nat_cmp}
use Rattle.std.specs.Str.{bytes_eq}

-- the index of the first item that passes
abbrev pub first_place : {A : Type 0} → (A → Bool) → List A → Option ℕ
first_place test [] = None
first_place test (x ∷ xs) = if test x then Some 0 else option_map suc (first_place test xs)

-- each name of an item with the index of the first that has it
abbrev pub AreFirstPlaces : {A : Type 0} → (A → List ℕ) → List A → List (List ℕ × ℕ) → Type 0
AreFirstPlaces name_of items places =
    (name : List ℕ) → lookup (is_at (slice_cmp nat_cmp name)) places ≡ first_place (λ x. bytes_eq (name_of x) name) items

-- the indices with that of a name added, unless the name has one already
abbrev pub with_place : List (List ℕ × ℕ) → List ℕ → ℕ → List (List ℕ × ℕ)
with_place places name place =
    if is_some (lookup (is_at (slice_cmp nat_cmp name)) places) then places else insert_entry (slice_cmp nat_cmp) places name place
