use Rattle.std.proofs.Common.{◌≡◌, ◌≤◌, List, [], ◌∷◌, None, length, refl, arith}
use Rattle.serde_json.specs.View.{items_view}
use Rattle.serde_json.specs.declared.value.Value.{Value}
use Rattle.api_claim.specs.Status.{only_item}
use Rattle.api_claim.proofs.status.only_item.Goals as goal

two : (vs : List Value) → 2 ≤ length vs → None ≡ only_item (items_view vs)
two [] h = absurd (omega arith)
two (v ∷ []) h = absurd (omega arith)
two (v ∷ w ∷ vs) h = refl

pub returns-in-len2-up : goal.returns-in-len2-up
returns-in-len2-up c = two c.args.items.now c.in-len2-up.len_at_least
