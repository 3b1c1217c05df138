-- How many items a list has, as its data and as its values, and whether there are any.
use Rattle.std.proofs.Common.{◌≡◌, ◌==◌, List, [], ◌∷◌, length, refl, arith, String}
use Rattle.std.proofs.lemmas.Bool.Decides.{nat_tests}
use Rattle.std.specs.declared.alloc.Global.{Global}
use Rattle.serde_json.specs.View.{items_view, members_view}
use Rattle.serde_json.specs.declared.value.Value.{Value}
use Rattle.object_fields.specs.Fields.{has_no_items, has_no_members, items_length}

pub items_length_view : (vs : List Value) → items_length (items_view vs) ≡ length vs
items_length_view [] = refl
items_length_view (v ∷ vs) = omega (arith, items_length_view vs)

pub no_items_view : (vs : List Value) → (length vs == 0) ≡ has_no_items (items_view vs)
no_items_view [] = refl
no_items_view (v ∷ vs) = grind (arith, nat_tests)

pub no_members_view : (ms : List (String Global × Value)) → (length ms == 0) ≡ has_no_members (members_view ms)
no_members_view [] = refl
no_members_view (m ∷ ms) = grind (arith, nat_tests)
