use Rattle.std.proofs.Common.{◌≡◌, ◌++◌, drop}
use Rattle.pool_view.proofs.learning.push_texts.Given as goal

abbrev pub invariant-loop-selector : goal.invariant-loop-selector
invariant-loop-selector l = l.texts ++ drop l.selector-index l.selectors ≡ l.fn.texts ++ l.selectors
