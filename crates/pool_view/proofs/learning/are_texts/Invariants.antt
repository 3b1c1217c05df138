use Rattle.std.proofs.Common.{◌≡◌, take}
use Rattle.pool_view.proofs.learning.are_texts.Given as goal

abbrev pub invariant-loop-i : goal.invariant-loop-i
invariant-loop-i l = take l.i l.texts ≡ take l.i l.selectors
