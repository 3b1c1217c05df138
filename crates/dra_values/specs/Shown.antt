-- What `{:?}` writes of a table.
use Rattle.std.specs.Prelude.{ℕ, List, [], ◌∷◌, Option, Some}
use Rattle.std.specs.Fmt.{◌++?◌, debug_items}

-- the key, a colon and a space, and the value
abbrev pub debug_entry : {K V : Type 0} → (K → Option (List ℕ)) → (V → Option (List ℕ)) → K × V → Option (List ℕ)
debug_entry key value e = key e.0 ++? Some (58 ∷ 32 ∷ []) ++? value e.1

-- the entries in braces, separated by commas
abbrev pub debug_table : {K V : Type 0} → (K → Option (List ℕ)) → (V → Option (List ℕ)) → List (K × V) → Option (List ℕ)
debug_table key value entries = Some (123 ∷ []) ++? debug_items (debug_entry key value) [] entries ++? Some (125 ∷ [])
