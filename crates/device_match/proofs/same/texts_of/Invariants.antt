use Rattle.std.proofs.Common.{◌≡◌, ◌++◌, drop}
use Rattle.device_match.proofs.same.texts_of.Given as goal

abbrev pub invariant-loop-selector : goal.invariant-loop-selector
invariant-loop-selector l = l.texts ++ drop l.selector-index l.selectors ≡ l.selectors
