use Rattle.std.proofs.Common.{◌≡◌, ◌++◌, ℕ, List, [], drop}
use Rattle.walk.specs.Lists.{choices}
use Rattle.deep_search.specs.Choices.{IsFirst}
use Rattle.deep_search.proofs.choosing.first_choice.Given as goal

abbrev pub invariant-loop-count : goal.invariant-loop-count
invariant-loop-count l = record {
  none : choices (drop l.count-index l.options) ≡ [] → choices l.options ≡ [];
  more : (c : List ℕ) → IsFirst (drop l.count-index l.options) c → IsFirst l.options (l.choice.items ++ c);
}
