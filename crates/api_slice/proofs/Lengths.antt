-- How many members an object has, as its data and as its entries.
use Rattle.std.proofs.Common.{◌≡◌, List, [], ◌∷◌, length, refl, arith, String}
use Rattle.std.specs.declared.alloc.Global.{Global}
use Rattle.serde_json.specs.View.{members_view}
use Rattle.serde_json.specs.declared.value.Value.{Value}
use Rattle.api_slice.specs.Lists.{members_length}

pub members_length_view : (ms : List (String Global × Value)) → members_length (members_view ms) ≡ length ms
members_length_view [] = refl
members_length_view (m ∷ ms) = omega (arith, members_length_view ms)
