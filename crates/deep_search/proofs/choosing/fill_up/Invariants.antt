use Rattle.std.proofs.Common.{◌≡◌, ◌++◌, ◌-◌, vec_len}
use Rattle.deep_search.specs.Choices.{zeros}
use Rattle.deep_search.proofs.choosing.fill_up.Given as goal

abbrev pub invariant-loop-choice : goal.invariant-loop-choice
invariant-loop-choice l = l.choice.items ++ zeros (l.count - vec_len l.choice) ≡ l.fn.choice.items ++ zeros (l.count - vec_len l.fn.choice)

abbrev pub decreases-loop-choice : goal.decreases-loop-choice
decreases-loop-choice l = l.count - vec_len l.choice
