use Rattle.std.proofs.Common.{◌≡◌, ◌++◌, drop, false}
use Rattle.serde_json.specs.Written.{items_text}
use Rattle.api_replies.specs.Lists.{items}
use Rattle.api_replies.proofs.lists.push_items.Given as goal

abbrev pub invariant-loop-target : goal.invariant-loop-target
invariant-loop-target l = l.body.items ++ items_text l.later (items l.state (drop l.target-index l.targets)) ≡ l.fn.body.items ++ items_text false (items l.state l.targets)
