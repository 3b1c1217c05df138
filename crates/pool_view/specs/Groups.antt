-- Items in groups, each group at a key.
use Rattle.std.specs.Prelude.{List, [], ◌∷◌, ◌++◌, map, unwrap_or}
use Rattle.std.specs.declared.cmp.Ordering.{Ordering}
use Rattle.std.specs.BTreeMap.{insert_entry, is_at}
use Rattle.std.specs.Map.{lookup, remove_entry}
use Rattle.pool_view.specs.Inventory.{Named}

-- the group at a key, empty if there is none
abbrev pub group_at : {K T : Type 0} → (K → K → Ordering) → List (K × List T) → K → List T
group_at cmp groups key = unwrap_or (lookup (is_at (cmp key)) groups) []

-- with an item more at the end of the group at a key
abbrev pub added : {K T : Type 0} → (K → K → Ordering) → List (K × List T) → K → T → List (K × List T)
added cmp groups key item = insert_entry cmp (remove_entry (is_at (cmp key)) groups) key (group_at cmp groups key ++ item ∷ [])

-- with the items of a list, each at its key
abbrev pub grouped : {K T : Type 0} → (K → K → Ordering) → (T → K) → List (K × List T) → List T → List (K × List T)
grouped cmp key_of groups [] = groups
grouped cmp key_of groups (x ∷ xs) = grouped cmp key_of (added cmp groups (key_of x) x) xs

-- the objects that are stored, by name
abbrev pub objects : {T : Type 0} → Named T → List T
objects es = map (λ e. e.1.object) es
