use Rattle.std.proofs.Common.{◌≡◌, ◌+◌, ◌≤◌, min, drop}
use Rattle.cel_tree.specs.Estimate.{most}
use Rattle.cel_meaning.specs.Steps.{weights}
use Rattle.cel_eval.proofs.steps.weights.Given as goal

abbrev pub invariant-loop-value : goal.invariant-loop-value
invariant-loop-value l = record {
  within : l.total ≤ most;
  sums : min (l.total + weights (drop l.value-index l.given)) most ≡ min (weights l.given) most;
}
