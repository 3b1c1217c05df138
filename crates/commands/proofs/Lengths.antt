-- How many items a list has, as its data and as its values.
use Rattle.std.proofs.Common.{◌≡◌, List, [], ◌∷◌, length, refl, arith}
use Rattle.serde_json.specs.View.{items_view}
use Rattle.serde_json.specs.declared.value.Value.{Value}
use Rattle.object_fields.specs.Fields.{items_length}

pub items_length_view : (vs : List Value) → items_length (items_view vs) ≡ length vs
items_length_view [] = refl
items_length_view (v ∷ vs) = omega (arith, items_length_view vs)
