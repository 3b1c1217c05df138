use Rattle.std.proofs.Common.{◌≡◌, map, take}
use Rattle.serde_json.specs.View.{view}
use Rattle.api_print.specs.Classes.{selector_json}
use Rattle.api_print.proofs.class.selector_list.Given as goal

abbrev pub invariant-loop-expression : goal.invariant-loop-expression
invariant-loop-expression l = map view l.list.items ≡ map selector_json (take l.expression-index l.expressions)
