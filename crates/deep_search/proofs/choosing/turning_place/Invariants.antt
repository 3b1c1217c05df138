use Rattle.std.proofs.Common.{◌≤◌, drop, length}
use Rattle.deep_search.specs.Choices.{IsLast}
use Rattle.deep_search.proofs.choosing.turning_place.Given as goal

abbrev pub invariant-loop-place : goal.invariant-loop-place
invariant-loop-place l = record {
  known : l.place ≤ length l.options;
  last : IsLast (drop l.place l.options) (drop l.place l.choice);
}

abbrev pub decreases-loop-place : goal.decreases-loop-place
decreases-loop-place l = l.place
